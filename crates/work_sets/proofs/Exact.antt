-- The tests of sameness are exact: a kind is known by its type, its members as values and its callbacks.
use Rattle.std.proofs.Common.{◌≡◌, ℕ, zero, suc, ℤ, pos, negsuc, true, false, ◌==◌, Option, Some, None, List, [], ◌∷◌, map, refl, sym, ap, ◌∙◌, Decides, if◌then◌else◌}
use Rattle.std.specs.Bool.{beq}
use Rattle.std.specs.Cmp.{unsigned_Decides, booleans_Decides}
use Rattle.std.specs.List.{find}
use Rattle.std.specs.Cmp.Lexicographic.{pointwise, pointwise_decides}
use Rattle.fx_expr.specs.declared.handlers.Handler.{Handler}
use Rattle.fx_expr.specs.declared.values.Ty.{Ty}
use Rattle.fx_expr.specs.declared.values.Ty.TheVariants as ty
use Rattle.fx_expr.specs.declared.values.Value.{Value}
use Rattle.fx_expr.specs.declared.values.Value.TheVariants as value
use Rattle.fx_expr.specs.Value.{int_in, bool_in, text_in, ints_in, texts_in, value_eq}
use Rattle.fx_expr.specs.ValueLaws.{value_eq-Decides}
use Rattle.fx_geom.specs.declared.shapes.Axis.{Axis}
use Rattle.fx_geom.specs.declared.shapes.Axis.TheVariants as axis
use Rattle.fx_geom.specs.declared.words.CrossAlign.{CrossAlign}
use Rattle.fx_geom.specs.declared.words.CrossAlign.TheVariants as cross_align
use Rattle.fx_geom.specs.declared.words.MainAlign.{MainAlign}
use Rattle.fx_geom.specs.declared.words.MainAlign.TheVariants as main_align
use Rattle.fx_geom.specs.declared.words.StackFit.{StackFit}
use Rattle.fx_geom.specs.declared.words.StackFit.TheVariants as stack_fit
use Rattle.widget_model.specs.declared.decl.Decl.{Decl}
use Rattle.widget_model.specs.declared.words.Behavior.{Behavior}
use Rattle.widget_model.specs.declared.words.Behavior.TheVariants as behavior
use Rattle.widget_model.specs.declared.words.FlexFit.{FlexFit}
use Rattle.widget_model.specs.declared.words.FlexFit.TheVariants as flex_fit
use Rattle.widget_model.specs.declared.words.MainSize.{MainSize}
use Rattle.widget_model.specs.declared.words.MainSize.TheVariants as main_size
use Rattle.widget_model.specs.Look.{Look, sized_box, constrained_box, padding, align, colored_box, text, row, column, wrap, table, stack, flexible, positioned, opacity, clip_rect, repaint_boundary, merge_semantics, intrinsic_width, intrinsic_height, offstage, ignore_pointer, absorb_pointer, detector, semantics, exclude_semantics, custom_paint, custom_layout, viewport, sliver_to_box, sliver_padding, sliver_fixed, sliver_lazy, keep, inherit, component}
use Rattle.widget_model.specs.Plain.{PlainWidget, plain, Widgets, no_widgets, more}
use Rattle.widget_model.specs.Update.{key_eq}
use Rattle.widget_model.specs.UpdateLaws.{key_eq-Decides, type_eq-Decides}
use Rattle.widget_model.specs.WidgetType.{type_of, type_eq}
use Rattle.plain_tree.specs.declared.render.ParentData.{ParentData}
use Rattle.work_sets.specs.Layout.{coded_placed, is_told_same}
use Rattle.work_sets.specs.Members.{perhaps, perhaps_signed, main_word, cross_word, size_word, stack_word, fit_word, behavior_word, axis_word, type_word, coded_callback, members_of, callbacks_of, is_same_look, is_same_widget, are_same_widgets}
use Rattle.work_sets.specs.Same.{is_same}
use Rattle.work_sets.proofs.Found.{equal}
use Rattle.work_sets.proofs.Quiet.{told_same}
use Rattle.work_sets.proofs.Sameness.{both, is_same-Decides, look_same, widget_same}

-- ---- members back from values

abbrev nat_in : ℤ → ℕ
nat_in (pos n) = n
nat_in (negsuc n) = 0

abbrev number_in : Value → ℕ
number_in v = nat_in (int_in v)

abbrev first_number : List ℤ → Option ℕ
first_number [] = None
first_number (z ∷ zs) = Some (nat_in z)

abbrev first_int : List ℤ → Option ℤ
first_int [] = None
first_int (z ∷ zs) = Some z

abbrev optional_in : Value → Option ℕ
optional_in v = first_number (ints_in v)

abbrev optional_int_in : Value → Option ℤ
optional_int_in v = first_int (ints_in v)

optional_back : (o : Option ℕ) → optional_in (perhaps o) ≡ o
optional_back None = refl
optional_back (Some n) = refl

optional_int_back : (o : Option ℤ) → optional_int_in (perhaps_signed o) ≡ o
optional_int_back None = refl
optional_int_back (Some z) = refl

abbrev main_at : ℕ → MainAlign
main_at zero = main_align.Start
main_at (suc zero) = main_align.End
main_at (suc (suc zero)) = main_align.Center
main_at (suc (suc (suc zero))) = main_align.Between
main_at (suc (suc (suc (suc zero)))) = main_align.Around
main_at n = main_align.Evenly

abbrev main_in : Value → MainAlign
main_in v = main_at (number_in v)

main_back : (w : MainAlign) → main_in (main_word w) ≡ w
main_back main_align.Start = refl
main_back main_align.End = refl
main_back main_align.Center = refl
main_back main_align.Between = refl
main_back main_align.Around = refl
main_back main_align.Evenly = refl

abbrev cross_at : ℕ → CrossAlign
cross_at zero = cross_align.Start
cross_at (suc zero) = cross_align.End
cross_at (suc (suc zero)) = cross_align.Center
cross_at n = cross_align.Stretch

abbrev cross_in : Value → CrossAlign
cross_in v = cross_at (number_in v)

cross_back : (w : CrossAlign) → cross_in (cross_word w) ≡ w
cross_back cross_align.Start = refl
cross_back cross_align.End = refl
cross_back cross_align.Center = refl
cross_back cross_align.Stretch = refl

abbrev size_at : ℕ → MainSize
size_at zero = main_size.Max
size_at n = main_size.Min

abbrev size_in : Value → MainSize
size_in v = size_at (number_in v)

size_back : (w : MainSize) → size_in (size_word w) ≡ w
size_back main_size.Max = refl
size_back main_size.Min = refl

abbrev stack_at : ℕ → StackFit
stack_at zero = stack_fit.Loose
stack_at (suc zero) = stack_fit.Expand
stack_at n = stack_fit.Passthrough

abbrev stack_in : Value → StackFit
stack_in v = stack_at (number_in v)

stack_back : (w : StackFit) → stack_in (stack_word w) ≡ w
stack_back stack_fit.Loose = refl
stack_back stack_fit.Expand = refl
stack_back stack_fit.Passthrough = refl

abbrev fit_at : ℕ → FlexFit
fit_at zero = flex_fit.Loose
fit_at n = flex_fit.Tight

abbrev fit_in : Value → FlexFit
fit_in v = fit_at (number_in v)

fit_back : (w : FlexFit) → fit_in (fit_word w) ≡ w
fit_back flex_fit.Loose = refl
fit_back flex_fit.Tight = refl

abbrev behavior_at : ℕ → Behavior
behavior_at zero = behavior.Defer
behavior_at (suc zero) = behavior.Opaque
behavior_at n = behavior.Translucent

abbrev behavior_in : Value → Behavior
behavior_in v = behavior_at (number_in v)

behavior_back : (w : Behavior) → behavior_in (behavior_word w) ≡ w
behavior_back behavior.Defer = refl
behavior_back behavior.Opaque = refl
behavior_back behavior.Translucent = refl

abbrev axis_at : ℕ → Axis
axis_at zero = axis.Horizontal
axis_at n = axis.Vertical

abbrev axis_in : Value → Axis
axis_in v = axis_at (number_in v)

axis_back : (w : Axis) → axis_in (axis_word w) ≡ w
axis_back axis.Horizontal = refl
axis_back axis.Vertical = refl

abbrev first_in : List Value → Value
first_in [] = value.Int (pos 0)
first_in (v ∷ vs) = v

abbrev no_declaration : Decl
no_declaration = record { name = []; fields = []; inherited = [] }

abbrev type_at : ℕ → Ty
type_at zero = ty.Int
type_at (suc zero) = ty.Bool
type_at (suc (suc zero)) = ty.Text
type_at (suc (suc (suc zero))) = ty.Ints
type_at n = ty.Texts

type_back : (t : Ty) → type_at (nat_in (type_word t)) ≡ t
type_back ty.Int = refl
type_back ty.Bool = refl
type_back ty.Text = refl
type_back ty.Ints = refl
type_back ty.Texts = refl

abbrev fields_in : List (List ℕ) → List ℤ → List (List ℕ × Ty)
fields_in (n ∷ ns) (t ∷ ts) = (n, type_at (nat_in t)) ∷ fields_in ns ts
fields_in ns ts = []

fields_back : (fs : List (List ℕ × Ty)) → fields_in (map (λ f. f.0) fs) (map (λ f. type_word f.1) fs) ≡ fs
fields_back [] = refl
fields_back (f ∷ fs) = λ i. (f.0, type_back f.1 i) ∷ fields_back fs i

names_back : (ns : List ℕ) → map nat_in (map (λ n. pos n) ns) ≡ ns
names_back [] = refl
names_back (n ∷ ns) = ap (λ l. n ∷ l) (names_back ns)

abbrev declaration_in : Value → Value → Value → Value → Decl
declaration_in title names types read = record { name = text_in title; fields = fields_in (texts_in names) (ints_in types); inherited = map nat_in (ints_in read) }

declaration_back : (d : Decl)
    → declaration_in (value.Text d.name) (value.Texts (map (λ f. f.0) d.fields)) (value.Ints (map (λ f. type_word f.1) d.fields)) (value.Ints (map (λ n. pos n) d.inherited)) ≡ d
declaration_back d = λ i. record { name = d.name; fields = fields_back d.fields i; inherited = names_back d.inherited i }

-- a kind of each type; those of which a name or a place is part of the type have those of the members
abbrev samples : List Value → List Look
samples vs =
    sized_box None None ∷ constrained_box 0 None 0 None ∷ padding 0 0 0 0 ∷ align (pos 0) (pos 0) ∷ colored_box 0 ∷ text [] 0 ∷ row main_align.Start cross_align.Start main_size.Max ∷ column main_align.Start cross_align.Start main_size.Max ∷ wrap 0 0 ∷ table [] ∷ stack (pos 0) (pos 0) stack_fit.Loose ∷ flexible 0 flex_fit.Loose ∷ positioned None None None None None None ∷ opacity 0 ∷ clip_rect ∷ repaint_boundary ∷ merge_semantics ∷ intrinsic_width ∷ intrinsic_height ∷ offstage false ∷ ignore_pointer false ∷ absorb_pointer false ∷ semantics [] false false ∷ exclude_semantics false ∷ custom_paint [] ∷ custom_layout [] ∷ viewport axis.Horizontal ∷ sliver_to_box ∷ sliver_padding 0 0 0 0 ∷ sliver_fixed 0 ∷ sliver_lazy 0 ∷ keep false ∷ detector behavior.Defer None None None None None
    ∷ inherit (number_in (first_in vs)) (value.Int (pos 0)) ∷ component (number_in (first_in vs)) [] no_declaration ∷ []

-- a kind of a type with these members and callbacks
abbrev with_members : Look → List Value → List (Option Handler) → Look
with_members (sized_box width0 height0) (width ∷ height ∷ []) cs = sized_box (optional_in width) (optional_in height)
with_members (constrained_box a0 b0 c0 d0) (a ∷ b ∷ c ∷ d ∷ []) cs = constrained_box (number_in a) (optional_in b) (number_in c) (optional_in d)
with_members (padding a0 b0 c0 d0) (a ∷ b ∷ c ∷ d ∷ []) cs = padding (number_in a) (number_in b) (number_in c) (number_in d)
with_members (align x0 y0) (x ∷ y ∷ []) cs = align (int_in x) (int_in y)
with_members (colored_box c0) (c ∷ []) cs = colored_box (number_in c)
with_members (text t0 c0) (t ∷ c ∷ []) cs = text (text_in t) (number_in c)
with_members (row m0 x0 s0) (m ∷ x ∷ s ∷ []) cs = row (main_in m) (cross_in x) (size_in s)
with_members (column m0 x0 s0) (m ∷ x ∷ s ∷ []) cs = column (main_in m) (cross_in x) (size_in s)
with_members (wrap a0 b0) (a ∷ b ∷ []) cs = wrap (number_in a) (number_in b)
with_members (table ws0) (ws ∷ []) cs = table (ints_in ws)
with_members (stack x0 y0 f0) (x ∷ y ∷ f ∷ []) cs = stack (int_in x) (int_in y) (stack_in f)
with_members (flexible a0 f0) (a ∷ f ∷ []) cs = flexible (number_in a) (fit_in f)
with_members (positioned a0 b0 c0 d0 e0 f0) (a ∷ b ∷ c ∷ d ∷ e ∷ f ∷ []) cs = positioned (optional_int_in a) (optional_int_in b) (optional_int_in c) (optional_int_in d) (optional_in e) (optional_in f)
with_members (opacity a0) (a ∷ []) cs = opacity (number_in a)
with_members clip_rect vs cs = clip_rect
with_members repaint_boundary vs cs = repaint_boundary
with_members merge_semantics vs cs = merge_semantics
with_members intrinsic_width vs cs = intrinsic_width
with_members intrinsic_height vs cs = intrinsic_height
with_members (offstage b0) (b ∷ []) cs = offstage (bool_in b)
with_members (ignore_pointer b0) (b ∷ []) cs = ignore_pointer (bool_in b)
with_members (absorb_pointer b0) (b ∷ []) cs = absorb_pointer (bool_in b)
with_members (semantics t0 b0 c0) (t ∷ b ∷ c ∷ []) cs = semantics (text_in t) (bool_in b) (bool_in c)
with_members (exclude_semantics b0) (b ∷ []) cs = exclude_semantics (bool_in b)
with_members (custom_paint t0) (t ∷ []) cs = custom_paint (text_in t)
with_members (custom_layout t0) (t ∷ []) cs = custom_layout (text_in t)
with_members (viewport x0) (x ∷ []) cs = viewport (axis_in x)
with_members sliver_to_box vs cs = sliver_to_box
with_members (sliver_padding a0 b0 c0 d0) (a ∷ b ∷ c ∷ d ∷ []) cs = sliver_padding (number_in a) (number_in b) (number_in c) (number_in d)
with_members (sliver_fixed a0) (a ∷ []) cs = sliver_fixed (number_in a)
with_members (sliver_lazy a0) (a ∷ []) cs = sliver_lazy (number_in a)
with_members (keep b0) (b ∷ []) cs = keep (bool_in b)
with_members (detector h t l v z p) (how ∷ []) (tap ∷ long ∷ vertical ∷ horizontal ∷ pan ∷ []) = detector (behavior_in how) tap long vertical horizontal pan
with_members (inherit name0 given0) (n ∷ given ∷ []) cs = inherit (number_in n) given
with_members (component place0 props0 declaration0) (n ∷ title ∷ names ∷ types ∷ read ∷ props) cs = component (number_in n) props (declaration_in title names types read)
with_members l vs cs = clip_rect

abbrev with_found : Option Look → List Value → List (Option Handler) → Look
with_found None vs cs = clip_rect
with_found (Some l) vs cs = with_members l vs cs

abbrev look_from : Look → List Value → List (Option Handler) → Look
look_from l vs cs = with_found (find (λ k. type_eq (type_of l) (type_of k)) (samples vs)) vs cs

look_back : (l : Look) → look_from l (members_of l) (callbacks_of l) ≡ l
look_back (sized_box width height) = λ i. sized_box (optional_back width i) (optional_back height i)
look_back (constrained_box a b c d) = λ i. constrained_box a (optional_back b i) c (optional_back d i)
look_back (padding a b c d) = refl
look_back (align x y) = refl
look_back (colored_box c) = refl
look_back (text t c) = refl
look_back (row m x s) = λ i. row (main_back m i) (cross_back x i) (size_back s i)
look_back (column m x s) = λ i. column (main_back m i) (cross_back x i) (size_back s i)
look_back (wrap a b) = refl
look_back (table ws) = refl
look_back (stack x y f) = λ i. stack x y (stack_back f i)
look_back (flexible a f) = λ i. flexible a (fit_back f i)
look_back (positioned a b c d e f) = λ i. positioned (optional_int_back a i) (optional_int_back b i) (optional_int_back c i) (optional_int_back d i) (optional_back e i) (optional_back f i)
look_back (opacity a) = refl
look_back clip_rect = refl
look_back repaint_boundary = refl
look_back merge_semantics = refl
look_back intrinsic_width = refl
look_back intrinsic_height = refl
look_back (offstage b) = refl
look_back (ignore_pointer b) = refl
look_back (absorb_pointer b) = refl
look_back (semantics t b c) = refl
look_back (exclude_semantics b) = refl
look_back (custom_paint t) = refl
look_back (custom_layout t) = refl
look_back (viewport x) = λ i. viewport (axis_back x i)
look_back sliver_to_box = refl
look_back (sliver_padding a b c d) = refl
look_back (sliver_fixed a) = refl
look_back (sliver_lazy a) = refl
look_back (keep b) = refl
look_back (detector how tap long vertical horizontal pan) = λ i. detector (behavior_back how i) tap long vertical horizontal pan
look_back (inherit name given) =
    ap (λ b. with_found (if b then Some (inherit name (value.Int (pos 0))) else None) (members_of (inherit name given)) (callbacks_of (inherit name given))) (equal name)
look_back (component place props declaration) =
    ap (λ b. with_found (if b then Some (component place [] no_declaration) else None) (members_of (component place props declaration)) (callbacks_of (component place props declaration))) (equal place)
    ∙ (λ i. component place props (declaration_back declaration i))

-- ---- exact tests

look_tells : (a b : Look) → is_same_look a b ≡ true → a ≡ b
look_tells a b e =
    let t = both (type_eq (type_of a) (type_of b)) _ e in
    let m = both (pointwise value_eq (members_of a) (members_of b)) _ t.1 in
    let types = (type_eq-Decides (type_of a) (type_of b)).0 t.0 in
    let members : members_of a ≡ members_of b = (pointwise_decides value_eq-Decides (members_of a) (members_of b)).0 m.0 in
    let callbacks : callbacks_of a ≡ callbacks_of b = (pointwise_decides (is_same-Decides coded_callback) (callbacks_of a) (callbacks_of b)).0 m.1 in
    sym (look_back a) ∙ (λ i. with_found (find (λ k. type_eq (types i) (type_of k)) (samples (members i))) (members i) (callbacks i)) ∙ look_back b

pub look_exact : (a b : Look) → Decides (is_same_look a b) (a ≡ b)
look_exact a b = (look_tells a b, λ e. ap (λ l. is_same_look a l) (sym e) ∙ look_same a)

mutual
  widget_tells : (v w : PlainWidget) → is_same_widget v w ≡ true → v ≡ w
  widget_tells (plain a k slots children) (plain b j others below) e =
      let l = both (is_same_look a b) _ e in
      let h = both (key_eq k j) _ l.1 in
      let r = both (are_same_widgets slots others) _ h.1 in
      λ i. plain (look_tells a b l.0 i) ((key_eq-Decides k j).0 h.0 i) (widgets_tell slots others r.0 i) (widgets_tell children below r.1 i)

  widgets_tell : (vs ws : Widgets) → are_same_widgets vs ws ≡ true → vs ≡ ws
  widgets_tell no_widgets no_widgets e = refl
  widgets_tell (more v vs) (more w ws) e =
      let h = both (is_same_widget v w) _ e in
      λ i. more (widget_tells v w h.0 i) (widgets_tell vs ws h.1 i)
  widgets_tell no_widgets (more w ws) e = cc
  widgets_tell (more v vs) no_widgets e = cc

pub widget_exact : (v w : PlainWidget) → Decides (is_same_widget v w) (v ≡ w)
widget_exact v w = (widget_tells v w, λ e. ap (λ x. is_same_widget v x) (sym e) ∙ widget_same v)

told_tells : (a b : ParentData) → is_told_same a b ≡ true → a ≡ b
told_tells a b e =
    let f = both (a.flex == b.flex) _ e in
    let t = both (beq a.tight b.tight) _ f.1 in
    let p = both (is_same coded_placed a.placed b.placed) _ t.1 in
    let flex : a.flex ≡ b.flex = (unsigned_Decides a.flex b.flex).0 f.0 in
    let tight : a.tight ≡ b.tight = (booleans_Decides a.tight b.tight).0 t.0 in
    let placed : a.placed ≡ b.placed = (is_same-Decides coded_placed a.placed b.placed).0 p.0 in
    let index : a.index ≡ b.index = (unsigned_Decides a.index b.index).0 p.1 in
    λ i. record { flex = flex i; tight = tight i; placed = placed i; index = index i }

pub told_exact : (a b : ParentData) → Decides (is_told_same a b) (a ≡ b)
told_exact a b = (told_tells a b, λ e. ap (λ d. is_told_same a d) (sym e) ∙ told_same a)
