-- How far slivers that were measured can be scrolled through.
use Rattle.std.proofs.Common.{◌≡◌, ap, refl, sym, subst, ◌∙◌, ℕ, ◌+◌, ◌==◌, Bool, true, false, not, cond, Option, Some, None, List, ◌∷◌, arith}
use Rattle.fx_geom.specs.declared.shapes.Axis.{Axis}
use Rattle.fx_geom.specs.declared.shapes.Insets.{Insets}
use Rattle.fx_geom.specs.Insets.{extent_of, before, after}
use Rattle.fx_geom.specs.Len.{stopped}
use Rattle.fx_handles.specs.declared.Handle.{Handle}
use Rattle.node_tree.specs.Forest.{Forest}
use Rattle.node_tree.specs.Forest.Forest.{none, tree}
use Rattle.sliver_layout.specs.declared.protocol.SliverBounds.{SliverBounds}
use Rattle.sliver_layout.specs.Slivers.{padded_of}
use Rattle.widget_model.specs.Look.{Look, sliver_to_box, sliver_padding}
use Rattle.plain_tree.specs.declared.laid.Frame.{Frame}
use Rattle.plain_tree.specs.Shown.{box_size}
use Rattle.layout_form.specs.declared.asks.Ask.{Ask}
use Rattle.layout_form.specs.declared.asks.Ask.TheVariants.{AsBox, AsSliver}
use Rattle.layout_form.specs.Object.{Setting, frame_geometry}
use Rattle.layout_form.specs.Single.{insets_of}
use Rattle.layout_form.specs.SliverRule.{unseen}
use Rattle.layout_walk.specs.Node.{LayoutNode, member, tellings, frame_or, asked}
use Rattle.layout_walk.specs.Rule.{asks_by, made_by, Lawful}
use Rattle.layout_walk.specs.Full.{objects}
use Rattle.layout_walk.specs.Here.{Here, HereAll, Backs}
use Rattle.layout_walk.specs.Rules.{parts_of}
use Rattle.layout_walk.specs.Asking.{same_axis}
use Rattle.layout_walk.specs.Measure.{Measured, boxed, padded, nothing, measured_below, measured_in, views, is_open, box_in, cross_in, opened, FirstLaid, MeasuredBy, FirstMeasured, AreMeasured, stored_extent, extent_by, extent_in, first_extent, extents_in, full_extent, full_extents}
use Rattle.layout_walk.proofs.Answering.{objects_are}
use Rattle.layout_walk.proofs.Asks.{and_true, same_axis_is, number_is}
use Rattle.layout_walk.proofs.Fresh.{answers_full, frame_full}
use Rattle.layout_walk.proofs.Standing.{false_true}
use Rattle.layout_walk.proofs.Running.{or_false}
use Rattle.layout_walk.proofs.Measuring.{open_by, box_look, padding_look, nothing_padded, nothing_boxed}

-- what a sliver of a kind gives, where nothing of it is seen
abbrev kind_extent : Setting → Axis → ℕ → LayoutNode → Look → Forest LayoutNode → ℕ
kind_extent s axis cross w look below =
    (frame_geometry (made_by (parts_of s) (record (member w) { look = look }) w.scroll (AsSliver (unseen axis cross)) 0 (tellings below) (objects (parts_of s) below)).facts.frame).scroll

-- ---- by its own members

other_extent : (s : Setting) (axis : Axis) (cross : ℕ) (w : LayoutNode) (look : Look) (below : Forest LayoutNode) (inner : ℕ → ℕ) → measured_below look ≡ nothing
    → extent_by look w.count axis cross below inner ≡ kind_extent s axis cross w look below
unfolding made_by
other_extent s axis cross w sliver_to_box below inner e = absurd (nothing_boxed (sym e))
other_extent s axis cross w (sliver_padding left top right bottom) below inner e = absurd (nothing_padded (insets_of left top right bottom) (sym e))
other_extent s axis cross w look below inner e = refl

-- ---- by its box

box_extent : (s : Setting) → Lawful (parts_of s) → (back : Backs) (axis : Axis) (cross : ℕ) (w : LayoutNode) (kids below : Forest LayoutNode)
    → FirstLaid (parts_of s) back (box_in axis cross) kids below → stored_extent axis below ≡ kind_extent s axis cross w sliver_to_box below
unfolding made_by asks_by objects
box_extent s law back axis cross w none none laid = refl
box_extent s law back axis cross w none (tree k u under rest) laid = absurd laid
box_extent s law back axis cross w (tree h v kids more) none laid = absurd laid
box_extent s law back axis cross w (tree h v kids more) (tree k u under rest) laid =
    ap (λ (o : Option Frame). extent_of (box_size (frame_or o)) axis)
    (frame_full (parts_of s) law u under (box_in axis cross) laid.1.here (answers_full (parts_of s) law under laid.1.all) laid.1.asked laid.1.settled)

-- ---- by the sliver in it

-- that of the first tree
abbrev FirstExtent : Setting → Axis → ℕ → Forest LayoutNode → Type 0
FirstExtent s axis cross none = Unit {0}
FirstExtent s axis cross (tree k w below rest) = extent_in axis cross w below (λ c. first_extent axis c below) ≡ full_extent (parts_of s) axis cross w below

padded_extent : (s : Setting) → Lawful (parts_of s) → (axis : Axis) (cross : ℕ) (w : LayoutNode) (left top right bottom : ℕ) (below : Forest LayoutNode)
    → FirstExtent s axis (cross_in axis cross (insets_of left top right bottom)) below
    → extent_by (sliver_padding left top right bottom) w.count axis cross below (λ c. first_extent axis c below) ≡ kind_extent s axis cross w (sliver_padding left top right bottom) below
unfolding made_by asks_by objects
padded_extent s law axis cross w left top right bottom none first =
    let i = insets_of left top right bottom in ap stopped (plus_zero (before i axis + after i axis))
  where
    plus_zero : (n : ℕ) → n + 0 ≡ n
    plus_zero n = omega arith
padded_extent s law axis cross w left top right bottom (tree k u under rest) first =
    let i = insets_of left top right bottom in
    let child = objects_are (parts_of s) law (tree k u under none) in
    ap (λ (n : ℕ). stopped (before i axis + after i axis + n))
    (first ∙ child.0.steady (unseen axis (cross_in axis cross i)) (padded_of (unseen axis cross) i) refl refl)

-- ---- by what is stored

pub record IsViewed (axis : Axis) (cross : ℕ) (o : Option Ask) : Type 0 where
  pub view : SliverBounds
  pub is : o ≡ Some (AsSliver view)
  pub axis_is : view.axis ≡ axis
  pub cross_is : view.cross ≡ cross

viewed : (axis : Axis) (cross : ℕ) (o : Option Ask) → views axis cross o ≡ true → IsViewed axis cross o
viewed axis cross None e = absurd (false_true e)
viewed axis cross (Some (AsBox b)) e = absurd (false_true e)
viewed axis cross (Some (AsSliver b)) e =
    let both = and_true (same_axis b.axis axis) (b.cross == cross) e in
    record { view = b; is = refl; axis_is = same_axis_is b.axis axis both.0; cross_is = number_is b.cross cross both.1 }

not_false : (b : Bool) → not b ≡ false → b ≡ true
not_false true e = refl
not_false false e = absurd (false_true (sym e))

closed_extent : (s : Setting) → Lawful (parts_of s) → (axis : Axis) (cross : ℕ) (w : LayoutNode) (below : Forest LayoutNode) → Here (parts_of s) w below → HereAll (parts_of s) below
    → is_open axis cross w ≡ false → (frame_geometry (frame_or w.frame)).scroll ≡ full_extent (parts_of s) axis cross w below
unfolding objects
closed_extent s law axis cross w below here all shut =
    let clear = or_false w.needs_layout (not (views axis cross (asked w))) shut in
    let view = viewed axis cross (asked w) (not_false (views axis cross (asked w)) clear.1) in
    let object = objects_are (parts_of s) law (tree zero_handle w below none) in
    ap (λ (o : Option Frame). (frame_geometry (frame_or o)).scroll)
    (frame_full (parts_of s) law w below (AsSliver view.view) here (answers_full (parts_of s) law below all) view.is (λ flag. absurd (false_true (sym clear.0 ∙ flag))))
    ∙ object.0.steady view.view (unseen axis cross) view.axis_is view.cross_is
  where
    zero_handle : Handle
    zero_handle = record { index = 0; generation = 0 }

-- ---- each of them

if_open : (b : Bool) (m n x : ℕ) → (b ≡ true → m ≡ x) → (b ≡ false → n ≡ x) → cond {A = ℕ} b m n ≡ x
if_open true m n x open_is shut_is = open_is refl
if_open false m n x open_is shut_is = shut_is refl

shut_nothing : (b : Bool) (m : Measured) → cond b m nothing ≡ nothing → b ≡ true → m ≡ nothing
shut_nothing true m e is = e
shut_nothing false m e is = absurd (false_true is)

one_extent : (s : Setting) → Lawful (parts_of s) → (back : Backs) (axis : Axis) (cross : ℕ) (v : LayoutNode) (kids : Forest LayoutNode) (w : LayoutNode) (below : Forest LayoutNode)
    → Here (parts_of s) v kids → HereAll (parts_of s) kids
    → (inner : ℕ → Type 0) → ((c : ℕ) → inner c → FirstExtent s axis c below)
    → (m : Measured) → measured_in axis cross v ≡ m → MeasuredBy (parts_of s) back axis cross m v kids w below inner
    → extent_in axis cross w below (λ c. first_extent axis c below) ≡ full_extent (parts_of s) axis cross w below
one_extent s law back axis cross v kids w below here all inner first boxed e is =
    subst (λ (x : LayoutNode). extent_in axis cross x below (λ c. first_extent axis c below) ≡ full_extent (parts_of s) axis cross x below) (sym is.0)
    (subst (λ (l : Look). extent_by l v.count axis cross below (λ c. first_extent axis c below) ≡ kind_extent s axis cross (opened v) l below)
    (sym (box_look v.look (open_by (is_open axis cross v) (measured_below v.look) boxed e tt))) (box_extent s law back axis cross (opened v) kids below is.1))
one_extent s law back axis cross v kids w below here all inner first (padded i) e is =
    let look = padding_look v.look i (open_by (is_open axis cross v) (measured_below v.look) (padded i) e tt) in
    subst (λ (x : LayoutNode). extent_in axis cross x below (λ c. first_extent axis c below) ≡ full_extent (parts_of s) axis cross x below) (sym is.0)
    (subst (λ (l : Look). extent_by l v.count axis cross below (λ c. first_extent axis c below) ≡ kind_extent s axis cross (opened v) l below) (sym look.look_is)
    (padded_extent s law axis cross (opened v) look.left look.top look.right look.bottom below
    (subst (λ (j : Insets). FirstExtent s axis (cross_in axis cross j) below) (sym look.insets) (first (cross_in axis cross i) is.1))))
one_extent s law back axis cross v kids w below here all inner first nothing e is =
    subst (λ (f : Forest LayoutNode). extent_in axis cross w f (λ c. first_extent axis c f) ≡ full_extent (parts_of s) axis cross w f) is.1
    (subst (λ (x : LayoutNode). extent_in axis cross x kids (λ c. first_extent axis c kids) ≡ full_extent (parts_of s) axis cross x kids) is.0
    (if_open (is_open axis cross v) (extent_by v.look v.count axis cross kids (λ c. first_extent axis c kids)) (frame_geometry (frame_or v.frame)).scroll (full_extent (parts_of s) axis cross v kids)
    (λ opens. other_extent s axis cross v v.look kids (λ c. first_extent axis c kids) (shut_nothing (is_open axis cross v) (measured_below v.look) e opens))
    (λ shut. closed_extent s law axis cross v kids here all shut)))

first_extents : (s : Setting) → Lawful (parts_of s) → (back : Backs) (axis : Axis) (cross : ℕ) (f g : Forest LayoutNode) → HereAll (parts_of s) f
    → FirstMeasured (parts_of s) back axis cross f g → FirstExtent s axis cross g
first_extents s law back axis cross none none all m = tt
first_extents s law back axis cross none (tree k w below rest) all m = absurd m
first_extents s law back axis cross (tree h v kids more) none all m = absurd m
first_extents s law back axis cross (tree h v kids more) (tree k w below rest) all m =
    one_extent s law back axis cross v kids w below all.0 all.1 (λ c. FirstMeasured (parts_of s) back axis c kids below) (λ c. first_extents s law back axis c kids below all.1)
    (measured_in axis cross v) refl m.1

pub all_extents : (s : Setting) → Lawful (parts_of s) → (back : Backs) (axis : Axis) (cross : ℕ) (f g : Forest LayoutNode) → HereAll (parts_of s) f
    → AreMeasured (parts_of s) back axis cross f g → extents_in axis cross g ≡ full_extents (parts_of s) axis cross g
all_extents s law back axis cross none none all m = refl
all_extents s law back axis cross none (tree k w below rest) all m = absurd m
all_extents s law back axis cross (tree h v kids more) none all m = absurd m
all_extents s law back axis cross (tree h v kids more) (tree k w below rest) all m =
    let here = one_extent s law back axis cross v kids w below all.0 all.1 (λ c. FirstMeasured (parts_of s) back axis c kids below) (λ c. first_extents s law back axis c kids below all.1)
    (measured_in axis cross v) refl m.1 in
    ap (λ (n : ℕ). n ∷ extents_in axis cross rest) here
    ∙ ap (λ (ns : List ℕ). full_extent (parts_of s) axis cross w below ∷ ns) (all_extents s law back axis cross more rest all.2 m.2)
