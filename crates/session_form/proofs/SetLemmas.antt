-- What `set` and `scroll` find at a node: its number, the types of its fields, and the place of a field.
use Rattle.std.proofs.lemmas.Bool.Decides.{nat_tests}
use Rattle.std.specs.Option.{option_or}
use Rattle.std.proofs.Common.{◌≡◌, ℕ, ◌==◌, ◌+◌, ◌<◌, Bool, true, false, Option, Some, None, option_and_then, option_map, zero, suc, List, [], ◌∷◌, map, length, slice_get, slice_set, refl, sym, subst, ap, ◌∙◌, if◌then◌else◌, arith}
use Rattle.std.specs.Str.{bytes_eq}
use Rattle.std.proofs.lemmas.Grind.{common_steps}
use Rattle.fx_expr.specs.declared.values.Ty.{Ty}
use Rattle.fx_expr.specs.declared.values.Ty.TheVariants as ty
use Rattle.fx_expr.specs.declared.values.Value.{Value}
use Rattle.fx_expr.specs.declared.values.Value.TheVariants as value
use Rattle.fx_expr.specs.Value.{type_of}
use Rattle.serde_json.specs.Data.{Data}
use Rattle.serde_json.specs.Find.{as_bool}
use Rattle.program_read.specs.Reading.{json_of}
use Rattle.expr_check.specs.Names.{NamedTypes, one_later, place_of, types_in}
use Rattle.widget_model.specs.declared.decl.Decl.{Decl}
use Rattle.widget_model.specs.Look.{Look, sized_box, constrained_box, padding, align, colored_box, text, row, column, wrap, table, stack, flexible, positioned, opacity, clip_rect, repaint_boundary, merge_semantics, intrinsic_width, intrinsic_height, offstage, ignore_pointer, absorb_pointer, detector, semantics, exclude_semantics, custom_paint, custom_layout, viewport, sliver_to_box, sliver_padding, sliver_fixed, sliver_lazy, keep, inherit, component}
use Rattle.widget_model.specs.Plain.{plain}
use Rattle.widget_model.specs.Typed.{ComponentType, Declarations, FitSlots, IsUse, sorts_of}
use Rattle.plain_tree.specs.At.{node_at, node_in}
use Rattle.plain_tree.specs.PlainNode.{PlainNode, node, PlainNodes, no_nodes, more_nodes, number_of, fields_of}
use Rattle.plain_tree.specs.States.{State, holding, scrolled, own_state, state_of, declared_state}
use Rattle.build_form.specs.BuildRole.{build_role_of}
use Rattle.build_form.specs.WellBuilt.{FitFields, IsWellBuilt, AreWellBuilt}
use Rattle.template_build.specs.Scene.{declaration_at, declaration_in}
use Rattle.session_form.specs.FieldValue.{int_from, text_from, list_from, value_from, value_read}
use Rattle.session_form.proofs.TreeLemmas.{some_inj, none_some}

-- ---- the node that is found has the number, and is well built

at_number : (b : Bool) (own w : ℕ) (n m : PlainNode) (below : Option PlainNode) → (own == w) ≡ b → number_of n ≡ own
    → (if b then Some n else below) ≡ Some m → (below ≡ Some m → number_of m ≡ w) → number_of m ≡ w
at_number true own w n m below test is e k =
    let same : own ≡ w = grind (arith, nat_tests) in
    ap number_of (sym (some_inj e)) ∙ is ∙ same
at_number false own w n m below test is e k = k e

in_found : (P : PlainNode → Type 0) (o rest : Option PlainNode) (m : PlainNode) → option_or o rest ≡ Some m → (o ≡ Some m → P m) → (rest ≡ Some m → P m) → P m
in_found P None rest m e k h = h e
in_found P (Some n) rest m e k h = k e

mutual
  pub number_found : (w : ℕ) (t m : PlainNode) → node_at w t ≡ Some m → number_of m ≡ w
  number_found w (node own wd fs s i ns) m e =
      at_number (own == w) own w (node own wd fs s i ns) m (node_in w ns) refl refl e (number_found_in w ns m)

  number_found_in : (w : ℕ) (ns : PlainNodes) (m : PlainNode) → node_in w ns ≡ Some m → number_of m ≡ w
  number_found_in w no_nodes m e = absurd (none_some e)
  number_found_in w (more_nodes n ns) m e =
      in_found (λ x. number_of x ≡ w) (node_at w n) (node_in w ns) m e (number_found w n m) (number_found_in w ns m)

at_built : (d : Declarations) (b : Bool) (n m : PlainNode) (below : Option PlainNode) → IsWellBuilt d n → (if b then Some n else below) ≡ Some m
    → (below ≡ Some m → IsWellBuilt d m) → IsWellBuilt d m
at_built d true n m below built e k = let P : PlainNode → Type 0 = λ x. IsWellBuilt d x in subst P (some_inj e) built
at_built d false n m below built e k = k e

mutual
  pub built_found : (d : Declarations) (w : ℕ) (t m : PlainNode) → IsWellBuilt d t → node_at w t ≡ Some m → IsWellBuilt d m
  built_found d w (node own wd fs s i ns) m h e =
      at_built d (own == w) (node own wd fs s i ns) m (node_in w ns) h e (built_found_in d w ns m h.1)

  built_found_in : (d : Declarations) (w : ℕ) (ns : PlainNodes) (m : PlainNode) → AreWellBuilt d ns → node_in w ns ≡ Some m → IsWellBuilt d m
  built_found_in d w no_nodes m h e = absurd (none_some e)
  built_found_in d w (more_nodes n ns) m h e =
      in_found (λ x. IsWellBuilt d x) (node_at w n) (node_in w ns) m e (built_found d w n m h.0) (built_found_in d w ns m h.1)

-- ---- a component's fields have the types that it declares

-- the state has the fields, and they have the types that are declared
abbrev pub HasTypes : State → List Value → Type 0
HasTypes (holding number declaration fields) vs = map type_of vs ≡ types_in declaration.fields
HasTypes (scrolled number scroll) vs = Unit {0}

abbrev pub AllHaveTypes : List State → List Value → Type 0
AllHaveTypes [] vs = Unit {0}
AllHaveTypes (s ∷ ss) vs = HasTypes s vs

types_declared : (number : ℕ) (declaration : Decl) (vs : List Value) → map type_of vs ≡ types_in declaration.fields
    → AllHaveTypes (declared_state number declaration vs) vs
types_declared number declaration [] e = tt
types_declared number declaration (v ∷ vs) e = e

-- what the program declares at a place is what the use of the component says
pub types_stated : (d : Declarations) (l : Look) (number scroll : ℕ) (vs : List Value)
    → ((place : ℕ) (props : List Value) (declaration : Decl) → l ≡ component place props declaration → map type_of vs ≡ types_in declaration.fields)
    → AllHaveTypes (state_of l number vs scroll) vs
types_stated d (sized_box width height) number scroll vs k = tt
types_stated d (constrained_box min_width max_width min_height max_height) number scroll vs k = tt
types_stated d (padding left top right bottom) number scroll vs k = tt
types_stated d (align ax ay) number scroll vs k = tt
types_stated d (colored_box color) number scroll vs k = tt
types_stated d (text words color) number scroll vs k = tt
types_stated d (row main cross size) number scroll vs k = tt
types_stated d (column main cross size) number scroll vs k = tt
types_stated d (wrap spacing run_spacing) number scroll vs k = tt
types_stated d (table widths) number scroll vs k = tt
types_stated d (stack ax ay fit) number scroll vs k = tt
types_stated d (flexible flex fit) number scroll vs k = tt
types_stated d (positioned left top right bottom width height) number scroll vs k = tt
types_stated d (opacity alpha) number scroll vs k = tt
types_stated d clip_rect number scroll vs k = tt
types_stated d repaint_boundary number scroll vs k = tt
types_stated d merge_semantics number scroll vs k = tt
types_stated d intrinsic_width number scroll vs k = tt
types_stated d intrinsic_height number scroll vs k = tt
types_stated d (offstage hidden) number scroll vs k = tt
types_stated d (ignore_pointer ignoring) number scroll vs k = tt
types_stated d (absorb_pointer absorbing) number scroll vs k = tt
types_stated d (detector behavior tap long vertical horizontal pan) number scroll vs k = tt
types_stated d (semantics label button container) number scroll vs k = tt
types_stated d (exclude_semantics excluding) number scroll vs k = tt
types_stated d (custom_paint delegate) number scroll vs k = tt
types_stated d (custom_layout delegate) number scroll vs k = tt
types_stated d (viewport axis) number scroll vs k = tt
types_stated d sliver_to_box number scroll vs k = tt
types_stated d (sliver_padding left top right bottom) number scroll vs k = tt
types_stated d (sliver_fixed extent) number scroll vs k = tt
types_stated d (sliver_lazy extent) number scroll vs k = tt
types_stated d (keep kept) number scroll vs k = tt
types_stated d (inherit name value) number scroll vs k = tt
types_stated d (component place props declaration) number scroll vs k = types_declared number declaration vs (k place props declaration refl)

-- ---- the place of a field

next_one : {A : Type 0} (x : A) (xs : List A) (i : ℕ) → slice_get (x ∷ xs) (i + 1) ≡ slice_get xs i
next_one x xs i = grind (arith, common_steps)

place_step : (b : Bool) (d : List ℕ × Ty) (rest : Option (ℕ × Ty)) (ds : NamedTypes) (i : ℕ) (t : Ty)
    → (if b then Some (0, d.1) else option_map one_later rest) ≡ Some (i, t)
    → ((j : ℕ) (u : Ty) → rest ≡ Some (j, u) → slice_get (types_in ds) j ≡ Some u) → slice_get (types_in (d ∷ ds)) i ≡ Some t
place_step true d rest ds i t e k =
    let P : ℕ × Ty → Type 0 = λ p. slice_get (d.1 ∷ types_in ds) p.0 ≡ Some p.1 in
    subst P (some_inj e) refl
place_step false d None ds i t e k = absurd (none_some e)
place_step false d (Some r) ds i t e k =
    let P : ℕ × Ty → Type 0 = λ p. slice_get (d.1 ∷ types_in ds) p.0 ≡ Some p.1 in
    subst P (some_inj e) (next_one d.1 (types_in ds) r.0 ∙ k r.0 r.1 refl)

pub place_typed : (ds : NamedTypes) (name : List ℕ) (i : ℕ) (t : Ty) → place_of ds name ≡ Some (i, t) → slice_get (types_in ds) i ≡ Some t
place_typed [] name i t e = absurd (none_some e)
place_typed (d ∷ ds) name i t e = place_step (bytes_eq name d.0) d (place_of ds name) ds i t e (λ j u k. place_typed ds name j u k)

-- ---- a value that is read has the type

mapped_type : {A : Type 0} (f : A → Value) (t : Ty) (o : Option A) (v : Value) → ((x : A) → type_of (f x) ≡ t) → option_map f o ≡ Some v → type_of v ≡ t
mapped_type f t None v k e = absurd (none_some e)
mapped_type f t (Some x) v k e = sym (ap type_of (some_inj e)) ∙ k x

from_type : (t : Ty) (d : Data) (v : Value) → value_from t d ≡ Some v → type_of v ≡ t
from_type ty.Int d v e = mapped_type value.Int ty.Int (int_from d) v (λ x. refl) e
from_type ty.Bool d v e = mapped_type value.Bool ty.Bool (as_bool d) v (λ x. refl) e
from_type ty.Text d v e = mapped_type value.Text ty.Text (text_from d) v (λ x. refl) e
from_type ty.Ints d v e = mapped_type value.Ints ty.Ints (list_from int_from d) v (λ x. refl) e
from_type ty.Texts d v e = mapped_type value.Texts ty.Texts (list_from text_from d) v (λ x. refl) e

read_type : (t : Ty) (o : Option Data) (v : Value) → option_and_then (value_from t) o ≡ Some v → type_of v ≡ t
read_type t None v e = absurd (none_some e)
read_type t (Some d) v e = from_type t d v e

pub value_typed : (t : Ty) (bytes : List ℕ) (v : Value) → value_read t bytes ≡ Some v → type_of v ≡ t
unfolding value_read
value_typed t bytes v e = read_type t (json_of bytes) v e

-- ---- so the field may have it

types_set : (vs : List Value) (i : ℕ) (t : Ty) (v : Value) → slice_get (map type_of vs) i ≡ Some t → type_of v ≡ t
    → (i < length vs) × (map type_of (slice_set vs i v) ≡ map type_of vs)
types_set [] i t v e k = absurd (none_some e)
types_set (x ∷ xs) zero t v e k = (grind (arith, common_steps), ap (λ u. u ∷ map type_of xs) (k ∙ sym (some_inj e)))
types_set (x ∷ xs) (suc i) t v e k =
    let below = types_set xs i t v e k in
    let within : i < length xs = below.0 in
    (grind (arith, common_steps), ap (λ l. type_of x ∷ l) below.1)

-- where a value stands that `set` gives to a field, by the state of the node that it is set at
pub set_typed : (states : List State) (vs : List Value) (number : ℕ) (declaration : Decl) (fields : List Value) (name bytes : List ℕ) (i : ℕ) (t : Ty) (v : Value)
    → AllHaveTypes states vs → states ≡ holding number declaration fields ∷ [] → place_of declaration.fields name ≡ Some (i, t) → value_read t bytes ≡ Some v
    → (i < length vs) × (map type_of (slice_set vs i v) ≡ map type_of vs)
set_typed states vs number declaration fields name bytes i t v types is place read =
    let P : List State → Type 0 = λ ss. AllHaveTypes ss vs in
    let same : map type_of vs ≡ types_in declaration.fields = subst P is types in
    types_set vs i t v (ap (λ l. slice_get l i) same ∙ place_typed declaration.fields name i t place) (value_typed t bytes v read)

pub types_stored : (d : Declarations) (m : PlainNode) → IsWellBuilt d m → AllHaveTypes (own_state m) (fields_of m)
types_stored d (node own (plain l k slots children) vs s i ns) h =
    types_stated d l own s vs (λ place props declaration e.
    let Suited : Look → Type 0 = λ x. FitFields d (build_role_of x) vs in
    let Filled : Look → Type 0 = λ x. FitSlots d x (sorts_of d slots) in
    let used : IsUse d place props declaration (sorts_of d slots) = subst Filled e h.0.typed.filled in
    let suited : map type_of vs ≡ types_in (declaration_at d place).fields = subst Suited e h.0.suited in
    suited ∙ ap (λ (o : Option ComponentType). types_in (declaration_in o).fields) used.named ∙ ap (λ (x : Decl). types_in x.fields) (sym used.declared))
