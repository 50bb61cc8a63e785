-- What is hidden says nothing and can't have the focus, so that a tree without it means the same and has the same order.
use Rattle.std.proofs.Common.{◌≡◌, ℕ, Bool, ◌||◌, true, false, if◌then◌else◌, None, List, [], ◌++◌, map, refl, sym, ap, ◌∙◌}
use Rattle.fx_geom.specs.declared.shapes.Offset.{Offset}
use Rattle.fx_geom.specs.declared.shapes.Rect.{Rect}
use Rattle.fx_geom.specs.Offset.{offset_sum, origin}
use Rattle.widget_model.specs.Look.{Look}
use Rattle.plain_tree.specs.declared.laid.Facts.{Facts}
use Rattle.plain_tree.specs.declared.laid.Frame.{Frame}
use Rattle.plain_tree.specs.Laid.{Laid, laid, Laids, no_laids, more_laids}
use Rattle.plain_tree.specs.Shown.{is_unseen}
use Rattle.screen_form.specs.declared.focus_role.FocusRole.TheVariants.{Hides}
use Rattle.screen_form.specs.declared.spot.Spot.{Spot}
use Rattle.screen_form.specs.Hidden.{hides_below, without_hidden, all_without_hidden}
use Rattle.screen_form.specs.SemanticsRole.{hides, shown_role, semantics_role}
use Rattle.screen_form.specs.FocusRole.{shown_role as shown_focus_role, focus_role}
use Rattle.screen_form.specs.Fragment.{Fragment, nothing, together, node_of, fragment_by, fragment_of, fragment_in, rect_at}
use Rattle.screen_form.specs.Semantics.{semantics_of, frame_of}
use Rattle.screen_form.specs.FocusOrder.{spot_at, spots_by, spots_of, spots_in, put_in, number_of, focus_order_of}

or_true : (b : Bool) → (b || true) ≡ true
or_true true = refl
or_true false = refl

-- ---- semantics

-- a node that hides what is below it gives nothing, whatever stands there
none_given : (look : Look) (frame : Frame) (n : ℕ) (r : Rect) (g : Fragment) → hides_below look frame ≡ true → fragment_by (semantics_role look frame) n r g ≡ nothing
none_given look frame n r g is =
    ap (λ h. fragment_by (if is_unseen frame || h then hides else shown_role look) n r g) is
    ∙ ap (λ h. fragment_by (if h then hides else shown_role look) n r g) (or_true (is_unseen frame))

heard_by : (hidden : Bool) (n : ℕ) (look : Look) (facts : Facts) (cs : Laids) (at : Offset) → hides_below look facts.frame ≡ hidden
    → fragment_in (all_without_hidden cs) at ≡ fragment_in cs at
    → fragment_of (laid n look facts (if hidden then no_laids else all_without_hidden cs)) at ≡ fragment_of (laid n look facts cs) at
unfolding fragment_of
heard_by true n look facts cs at is below =
    none_given look facts.frame n (rect_at at facts.frame) (fragment_in no_laids at) is
    ∙ sym (none_given look facts.frame n (rect_at at facts.frame) (fragment_in cs at) is)
heard_by false n look facts cs at is below = ap (fragment_by (semantics_role look facts.frame) n (rect_at at facts.frame)) below

mutual
  unfolding fragment_of

  heard : (l : Laid) (at : Offset) → fragment_of (without_hidden l) at ≡ fragment_of l at
  heard (laid n look facts cs) at = heard_by (hides_below look facts.frame) n look facts cs at refl (heard_all cs at)

  heard_all : (ls : Laids) (at : Offset) → fragment_in (all_without_hidden ls) at ≡ fragment_in ls at
  heard_all no_laids at = refl
  heard_all (more_laids by l ls) at = λ i. together (heard l (offset_sum at by) i) (heard_all ls at i)

same_frame : (l : Laid) → frame_of (without_hidden l) ≡ frame_of l
same_frame (laid n look facts cs) = refl

pub unheard_law : (l : Laid) → semantics_of (without_hidden l) ≡ semantics_of l
unheard_law l = λ i. node_of 0 (rect_at origin (same_frame l i)) None None (heard l origin i)

-- ---- focus

none_placed : (look : Look) (frame : Frame) (own : Spot) (below : List Spot) → hides_below look frame ≡ true → spots_by (focus_role look frame) own below ≡ []
none_placed look frame own below is =
    ap (λ h. spots_by (if is_unseen frame || h then Hides else shown_focus_role look) own below) is
    ∙ ap (λ h. spots_by (if h then Hides else shown_focus_role look) own below) (or_true (is_unseen frame))

placed_by : (hidden : Bool) (n : ℕ) (look : Look) (facts : Facts) (cs : Laids) (at : Offset) → hides_below look facts.frame ≡ hidden
    → spots_in (all_without_hidden cs) at ≡ spots_in cs at
    → spots_of (laid n look facts (if hidden then no_laids else all_without_hidden cs)) at ≡ spots_of (laid n look facts cs) at
unfolding spots_of
placed_by true n look facts cs at is below =
    none_placed look facts.frame (spot_at n at) (spots_in no_laids at) is ∙ sym (none_placed look facts.frame (spot_at n at) (spots_in cs at) is)
placed_by false n look facts cs at is below = ap (spots_by (focus_role look facts.frame) (spot_at n at)) below

mutual
  unfolding spots_of

  placed : (l : Laid) (at : Offset) → spots_of (without_hidden l) at ≡ spots_of l at
  placed (laid n look facts cs) at = placed_by (hides_below look facts.frame) n look facts cs at refl (placed_all cs at)

  placed_all : (ls : Laids) (at : Offset) → spots_in (all_without_hidden ls) at ≡ spots_in ls at
  placed_all no_laids at = refl
  placed_all (more_laids by l ls) at = λ i. placed l (offset_sum at by) i ++ placed_all ls at i

pub unfocused_law : (l : Laid) → focus_order_of (without_hidden l) ≡ focus_order_of l
unfocused_law l = ap (λ ss. map number_of (put_in [] ss)) (placed l origin)
