-- The rule of a box with one child below it.
use Rattle.std.proofs.Common.{◌≡◌, ap, refl, sym, ◌∙◌, ℕ, true, false, Option, Some, List, [], ◌∷◌}
use Rattle.std.proofs.lemmas.Bool.{false≢true}
use Rattle.fx_geom.specs.declared.boxes.Bounds.{Bounds}
use Rattle.fx_geom.specs.declared.shapes.Offset.{Offset}
use Rattle.fx_geom.specs.declared.shapes.Size.{Size}
use Rattle.widget_model.specs.Look.{Look, sized_box, constrained_box, padding, align, colored_box, text, row, column, wrap, table, stack, flexible, positioned, opacity, clip_rect, repaint_boundary, merge_semantics, intrinsic_width, intrinsic_height, offstage, ignore_pointer, absorb_pointer, detector, semantics, exclude_semantics, custom_paint, custom_layout, viewport, sliver_to_box, sliver_padding, sliver_fixed, sliver_lazy, keep, inherit, component}
use Rattle.plain_tree.specs.declared.laid.Frame.{Frame}
use Rattle.plain_tree.specs.declared.render.ParentData.{ParentData}
use Rattle.plain_tree.specs.Shown.{box_size}
use Rattle.layout_form.specs.declared.asks.Ask.{Ask}
use Rattle.layout_form.specs.declared.asks.Ask.TheVariants.{AsBox}
use Rattle.layout_form.specs.Object.{Setting}
use Rattle.layout_form.specs.Protocol.{Found}
use Rattle.layout_form.specs.Single.{Around, around}
use Rattle.layout_form.specs.Frames.{Makes, sized_with, single_makes, box_makes}
use Rattle.kind_rules.specs.Ruling.{box_ruling}
use Rattle.kind_rules.specs.Asked.{first_for, rest_for, ruling_for}
use Rattle.kind_rules.specs.Single.{is_single}

made_around : (a : Around) (b : Bounds) (f : Frame) (child size : Size) (at : Offset) → child ≡ box_size f → size ≡ a.size (Some child) → at ≡ a.place size child
    → box_ruling b (sized_with size (at ∷ [])) ≡ box_ruling b (single_makes a (f ∷ []))
made_around a b f child size at is sizes places =
    ap (λ (p : Offset). box_ruling b (sized_with size (p ∷ []))) places
    ∙ ap (λ (x : Size). box_ruling b (sized_with x (a.place x child ∷ []))) sizes
    ∙ ap (λ (i : Size). let x = a.size (Some i) in box_ruling b (sized_with x (a.place x i ∷ []))) is

-- what such a kind makes of its frames is what is made around them
pub makes_around : (s : Setting) (l : Look) (b : Bounds) (found : Found) (ds : List ParentData) (fs : List Frame) → is_single l ≡ true
    → box_makes s l b found ds fs ≡ single_makes (around s l b 0) fs
makes_around s (sized_box width height) b found ds fs is = refl
makes_around s (constrained_box min_width max_width min_height max_height) b found ds fs is = refl
makes_around s (padding left top right bottom) b found ds fs is = refl
makes_around s (align ax ay) b found ds fs is = refl
makes_around s (colored_box color) b found ds fs is = refl
makes_around s (text words color) b found ds fs is = absurd (false≢true is)
makes_around s (row main cross size) b found ds fs is = absurd (false≢true is)
makes_around s (column main cross size) b found ds fs is = absurd (false≢true is)
makes_around s (wrap spacing run_spacing) b found ds fs is = absurd (false≢true is)
makes_around s (table widths) b found ds fs is = absurd (false≢true is)
makes_around s (stack ax ay fit) b found ds fs is = absurd (false≢true is)
makes_around s (flexible flex fit) b found ds fs is = absurd (false≢true is)
makes_around s (positioned left top right bottom width height) b found ds fs is = absurd (false≢true is)
makes_around s (opacity alpha) b found ds fs is = refl
makes_around s clip_rect b found ds fs is = refl
makes_around s repaint_boundary b found ds fs is = refl
makes_around s merge_semantics b found ds fs is = refl
makes_around s intrinsic_width b found ds fs is = refl
makes_around s intrinsic_height b found ds fs is = refl
makes_around s (offstage hidden) b found ds fs is = refl
makes_around s (ignore_pointer ignoring) b found ds fs is = refl
makes_around s (absorb_pointer absorbing) b found ds fs is = refl
makes_around s (detector behavior tap long vertical horizontal pan) b found ds fs is = refl
makes_around s (semantics label button container) b found ds fs is = refl
makes_around s (exclude_semantics excluding) b found ds fs is = refl
makes_around s (custom_paint delegate) b found ds fs is = refl
makes_around s (custom_layout delegate) b found ds fs is = refl
makes_around s (viewport axis) b found ds fs is = absurd (false≢true is)
makes_around s sliver_to_box b found ds fs is = absurd (false≢true is)
makes_around s (sliver_padding left top right bottom) b found ds fs is = absurd (false≢true is)
makes_around s (sliver_fixed extent) b found ds fs is = absurd (false≢true is)
makes_around s (sliver_lazy extent) b found ds fs is = absurd (false≢true is)
makes_around s (keep kept) b found ds fs is = absurd (false≢true is)
makes_around s (inherit name value) b found ds fs is = absurd (false≢true is)
makes_around s (component place props declaration) b found ds fs is = absurd (false≢true is)

pub single_rules : (s : Setting) (l : Look) (b : Bounds) (f : Frame) (child size : Size) (at : Offset) (count : ℕ) (found : Found) (ds : List ParentData) → is_single l ≡ true
    → child ≡ box_size f → size ≡ (around s l b 0).size (Some child) → at ≡ (around s l b 0).place size child
    → box_ruling b (sized_with size (at ∷ [])) ≡ ruling_for s l count (AsBox b) found ds (Some f ∷ [])
single_rules s l b f child size at count found ds is childs sizes places =
    made_around (around s l b 0) b f child size at childs sizes places ∙ ap (λ (m : Makes). box_ruling b m) (sym (makes_around s l b found ds (f ∷ []) is))

-- it asks its child, whatever that was told
pub single_first : (s : Setting) (l : Look) (b : Bounds) (count liked : ℕ) (ds : List ParentData) → is_single l ≡ true
    → Some (AsBox (around s l b liked).inner) ∷ [] ≡ first_for s l count (AsBox b) liked ds
single_first s (sized_box width height) b count liked ds is = refl
single_first s (constrained_box min_width max_width min_height max_height) b count liked ds is = refl
single_first s (padding left top right bottom) b count liked ds is = refl
single_first s (align ax ay) b count liked ds is = refl
single_first s (colored_box color) b count liked ds is = refl
single_first s (text words color) b count liked ds is = absurd (false≢true is)
single_first s (row main cross size) b count liked ds is = absurd (false≢true is)
single_first s (column main cross size) b count liked ds is = absurd (false≢true is)
single_first s (wrap spacing run_spacing) b count liked ds is = absurd (false≢true is)
single_first s (table widths) b count liked ds is = absurd (false≢true is)
single_first s (stack ax ay fit) b count liked ds is = absurd (false≢true is)
single_first s (flexible flex fit) b count liked ds is = absurd (false≢true is)
single_first s (positioned left top right bottom width height) b count liked ds is = absurd (false≢true is)
single_first s (opacity alpha) b count liked ds is = refl
single_first s clip_rect b count liked ds is = refl
single_first s repaint_boundary b count liked ds is = refl
single_first s merge_semantics b count liked ds is = refl
single_first s intrinsic_width b count liked ds is = refl
single_first s intrinsic_height b count liked ds is = refl
single_first s (offstage hidden) b count liked ds is = refl
single_first s (ignore_pointer ignoring) b count liked ds is = refl
single_first s (absorb_pointer absorbing) b count liked ds is = refl
single_first s (detector behavior tap long vertical horizontal pan) b count liked ds is = refl
single_first s (semantics label button container) b count liked ds is = refl
single_first s (exclude_semantics excluding) b count liked ds is = refl
single_first s (custom_paint delegate) b count liked ds is = refl
single_first s (custom_layout delegate) b count liked ds is = refl
single_first s (viewport axis) b count liked ds is = absurd (false≢true is)
single_first s sliver_to_box b count liked ds is = absurd (false≢true is)
single_first s (sliver_padding left top right bottom) b count liked ds is = absurd (false≢true is)
single_first s (sliver_fixed extent) b count liked ds is = absurd (false≢true is)
single_first s (sliver_lazy extent) b count liked ds is = absurd (false≢true is)
single_first s (keep kept) b count liked ds is = absurd (false≢true is)
single_first s (inherit name value) b count liked ds is = absurd (false≢true is)
single_first s (component place props declaration) b count liked ds is = absurd (false≢true is)

-- and nobody then
pub single_rest : (l : Look) (b : Bounds) (found : Found) (ds : List ParentData) (fs : List (Option Frame)) → is_single l ≡ true → [] ≡ rest_for l (AsBox b) found ds fs
single_rest (sized_box width height) b found ds fs is = refl
single_rest (constrained_box min_width max_width min_height max_height) b found ds fs is = refl
single_rest (padding left top right bottom) b found ds fs is = refl
single_rest (align ax ay) b found ds fs is = refl
single_rest (colored_box color) b found ds fs is = refl
single_rest (text words color) b found ds fs is = absurd (false≢true is)
single_rest (row main cross size) b found ds fs is = absurd (false≢true is)
single_rest (column main cross size) b found ds fs is = absurd (false≢true is)
single_rest (wrap spacing run_spacing) b found ds fs is = absurd (false≢true is)
single_rest (table widths) b found ds fs is = absurd (false≢true is)
single_rest (stack ax ay fit) b found ds fs is = absurd (false≢true is)
single_rest (flexible flex fit) b found ds fs is = absurd (false≢true is)
single_rest (positioned left top right bottom width height) b found ds fs is = absurd (false≢true is)
single_rest (opacity alpha) b found ds fs is = refl
single_rest clip_rect b found ds fs is = refl
single_rest repaint_boundary b found ds fs is = refl
single_rest merge_semantics b found ds fs is = refl
single_rest intrinsic_width b found ds fs is = refl
single_rest intrinsic_height b found ds fs is = refl
single_rest (offstage hidden) b found ds fs is = refl
single_rest (ignore_pointer ignoring) b found ds fs is = refl
single_rest (absorb_pointer absorbing) b found ds fs is = refl
single_rest (detector behavior tap long vertical horizontal pan) b found ds fs is = refl
single_rest (semantics label button container) b found ds fs is = refl
single_rest (exclude_semantics excluding) b found ds fs is = refl
single_rest (custom_paint delegate) b found ds fs is = refl
single_rest (custom_layout delegate) b found ds fs is = refl
single_rest (viewport axis) b found ds fs is = absurd (false≢true is)
single_rest sliver_to_box b found ds fs is = absurd (false≢true is)
single_rest (sliver_padding left top right bottom) b found ds fs is = absurd (false≢true is)
single_rest (sliver_fixed extent) b found ds fs is = absurd (false≢true is)
single_rest (sliver_lazy extent) b found ds fs is = absurd (false≢true is)
single_rest (keep kept) b found ds fs is = absurd (false≢true is)
single_rest (inherit name value) b found ds fs is = absurd (false≢true is)
single_rest (component place props declaration) b found ds fs is = absurd (false≢true is)
