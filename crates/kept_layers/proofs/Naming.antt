-- A delegate is read by nodes of its name alone.
use Rattle.std.proofs.Common.{◌≡◌, ℕ, Bool, true, false, if◌then◌else◌, Option, Some, option_and_then, List, [], ◌∷◌, refl, ap, sym, ◌∙◌}
use Rattle.std.specs.List.{find}
use Rattle.std.specs.Str.{bytes_eq}
use Rattle.std.proofs.lemmas.Slice.Eq.{bytes_eq-Decides}
use Rattle.fx_handles.specs.declared.Handle.{Handle}
use Rattle.fx_geom.specs.declared.shapes.Offset.{Offset}
use Rattle.fx_geom.specs.declared.shapes.Size.{Size}
use Rattle.delegates.specs.Meaning.{Meaning}
use Rattle.delegates.specs.Table.{Plug, is_named, meaning_in, meaning_of, with_meaning}
use Rattle.node_tree.specs.Tree.{Tree}
use Rattle.widget_model.specs.Look.{Look, sized_box, constrained_box, padding, align, colored_box, text, row, column, wrap, table, stack, flexible, positioned, opacity, clip_rect, repaint_boundary, merge_semantics, intrinsic_width, intrinsic_height, offstage, ignore_pointer, absorb_pointer, detector, semantics, exclude_semantics, custom_paint, custom_layout, viewport, sliver_to_box, sliver_padding, sliver_fixed, sliver_lazy, keep, inherit, component}
use Rattle.plain_tree.specs.declared.laid.Frame.{Frame}
use Rattle.plain_tree.specs.Shown.{box_size}
use Rattle.layout_form.specs.Layout.{delegate_of}
use Rattle.screen_form.specs.OwnRecords.{own_records, drawing_of}
use Rattle.render_tree.specs.Object.{RenderObject, object_look}
use Rattle.render_tree.specs.Plain.{frame_or}
use Rattle.render_tree.specs.Tree.{object_at}
use Rattle.render_tree.specs.Users.{is_called, uses}
use Rattle.kept_layers.specs.Unmarked.{DrawsSame}

module _ (name : List ℕ) (m : Option Meaning) where
  -- any other delegate means what it meant
  meaning_stays : (d : List ℕ) → bytes_eq d name ≡ false → (es : List Plug) → meaning_of (with_meaning es name m) d ≡ meaning_of es d
  meaning_stays d apart [] = refl
  meaning_stays d apart (e ∷ es) = by_name (meaning_stays d apart es) (is_named name e) refl
    where
      skipped : (x : Plug) → x.name ≡ e.name → bytes_eq name e.name ≡ true → (xs : List Plug) → meaning_in (find (is_named d) (x ∷ xs)) ≡ meaning_in (find (is_named d) xs)
      skipped x same there xs = ap (λ (b : Bool). meaning_in (if b then Some x else find (is_named d) xs)) (ap (bytes_eq d) (same ∙ sym ((bytes_eq-Decides name e.name).0 there)) ∙ apart)

      by_own : meaning_of (with_meaning es name m) d ≡ meaning_of es d → (c : Bool)
          → meaning_in (if c then Some e else find (is_named d) (with_meaning es name m)) ≡ meaning_in (if c then Some e else find (is_named d) es)
      by_own later true = refl
      by_own later false = later

      by_name : meaning_of (with_meaning es name m) d ≡ meaning_of es d → (b : Bool) → is_named name e ≡ b → meaning_of (if b then record { name = e.name; meaning = m } ∷ es else e ∷ with_meaning es name m) d ≡ meaning_of (e ∷ es) d
      by_name later true there = skipped (record { name = e.name; meaning = m }) refl there es ∙ sym (skipped e refl there es)
      by_name later false gone = by_own later (is_named d e)

  module _ (cell : Size) (es : List Plug) where
    same_records : (look : Look) (frame : Frame) (p : Offset) → is_called name (delegate_of look) ≡ false → own_records cell (with_meaning es name m) look frame p ≡ own_records cell es look frame p
    same_records (sized_box width height) frame p apart = refl
    same_records (constrained_box min_width max_width min_height max_height) frame p apart = refl
    same_records (padding left top right bottom) frame p apart = refl
    same_records (align ax ay) frame p apart = refl
    same_records (colored_box color) frame p apart = refl
    same_records (text words color) frame p apart = refl
    same_records (row main cross size) frame p apart = refl
    same_records (column main cross size) frame p apart = refl
    same_records (wrap spacing run_spacing) frame p apart = refl
    same_records (table widths) frame p apart = refl
    same_records (stack ax ay fit) frame p apart = refl
    same_records (flexible flex fit) frame p apart = refl
    same_records (positioned left top right bottom width height) frame p apart = refl
    same_records (opacity alpha) frame p apart = refl
    same_records clip_rect frame p apart = refl
    same_records repaint_boundary frame p apart = refl
    same_records merge_semantics frame p apart = refl
    same_records intrinsic_width frame p apart = refl
    same_records intrinsic_height frame p apart = refl
    same_records (offstage hidden) frame p apart = refl
    same_records (ignore_pointer ignoring) frame p apart = refl
    same_records (absorb_pointer absorbing) frame p apart = refl
    same_records (detector how tap long vertical horizontal pan) frame p apart = refl
    same_records (semantics label button container) frame p apart = refl
    same_records (exclude_semantics excluding) frame p apart = refl
    same_records (custom_paint delegate) frame p apart = ap (λ x. drawing_of x (box_size frame) p) (meaning_stays delegate apart es)
    same_records (custom_layout delegate) frame p apart = refl
    same_records (viewport axis) frame p apart = refl
    same_records sliver_to_box frame p apart = refl
    same_records (sliver_padding left top right bottom) frame p apart = refl
    same_records (sliver_fixed extent) frame p apart = refl
    same_records (sliver_lazy extent) frame p apart = refl
    same_records (keep kept) frame p apart = refl
    same_records (inherit name_of value) frame p apart = refl
    same_records (component place props declaration) frame p apart = refl

-- a node that doesn't use a delegate of the name draws the same
pub others_draw : (cell : Size) (delegates : List Plug) (name : List ℕ) (m : Option Meaning) (t : Tree RenderObject) (k : Handle) (o : RenderObject)
    → object_at t k ≡ Some o → uses t name k ≡ false → DrawsSame cell delegates (with_meaning delegates name m) o
others_draw cell delegates name m t k o at_k apart p =
    same_records name m cell delegates (object_look o) (frame_or o.frame) p
    (sym (ap (λ (x : Option RenderObject). is_called name (option_and_then (λ (v : RenderObject). delegate_of (object_look v)) x)) at_k) ∙ apart)
