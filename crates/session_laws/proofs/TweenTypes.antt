-- The type of a field stays what it is; a number is accepted where the field is one.
use Rattle.std.proofs.Common.{◌≡◌, ℕ, ◌<◌, ◌^◌, ℤ, ◌⊎◌, inl, inr, Option, Some, None, IfSome, option_map, option_and_then, List, [], ◌∷◌, map, slice_get, refl, sym, ap, ◌∙◌}
use Rattle.std.specs.Fmt.{signed_decimal}
use Rattle.std.specs.Int.Signed.{mag}
use Rattle.std.specs.Result.{result_ok}
use Rattle.std.proofs.lemmas.Option.{slice_get-map}
use Rattle.fx_expr.specs.declared.values.Ty.{Ty}
use Rattle.fx_expr.specs.declared.values.Ty.TheVariants as ty
use Rattle.fx_expr.specs.declared.values.Value.{Value}
use Rattle.fx_expr.specs.declared.values.Value.TheVariants as value
use Rattle.fx_expr.specs.Value.{type_of}
use Rattle.expr_check.specs.Names.{place_of, types_in}
use Rattle.widget_model.specs.declared.decl.Decl.{Decl}
use Rattle.widget_model.specs.Look.{Look, viewport, component}
use Rattle.widget_model.specs.Plain.{look_of}
use Rattle.widget_model.specs.Typed.{Declarations}
use Rattle.template_build.specs.Program.{declarations_of}
use Rattle.plain_tree.specs.PlainNode.{PlainNode, node}
use Rattle.plain_tree.specs.States.{state_of}
use Rattle.program_read.specs.declared.fault.ShapeCode.TheVariants.{NotInteger}
use Rattle.program_read.specs.Leaves.{or_stop}
use Rattle.build_form.specs.WellBuilt.{IsWellBuilt}
use Rattle.session_form.specs.Changing.{with_field, set_to, set_field, set_state, set_node}
use Rattle.session_form.specs.FieldValue.{value_from, value_read}
use Rattle.session_form.specs.Handlers.{node_in}
use Rattle.session_form.specs.Outcome as outcome
use Rattle.session_form.specs.State.{SessionState}
use Rattle.session_form.specs.Step.{step}
use Rattle.session_form.proofs.SetLemmas.{AllHaveTypes, types_stored, place_typed, value_typed}
use Rattle.session_form.proofs.TreeLemmas.{Head, heads}
use Rattle.live_session.specs.Fields.{field_of, field_at}
use Rattle.live_session.specs.Tweens.{set_number}
use Rattle.live_session.proofs.TweenFieldLemmas.{json_is, integer_is, value_is}
use Rattle.session_laws.specs.Sound.{IsSoundState}
use Rattle.session_laws.proofs.Sound.{built_in}

-- ---- the type of a field, by the kind of its node and the types of its fields

abbrev look_type : Look → List Ty → List ℕ → Option Ty
look_type (component place props d) types name = option_and_then (λ (p : ℕ × Ty). slice_get types p.0) (place_of d.fields name)
look_type _ types name = None

by_place : (o : Option (ℕ × Ty)) (vs : List Value) → option_map type_of (option_and_then (λ (p : ℕ × Ty). slice_get vs p.0) o) ≡ option_and_then (λ (p : ℕ × Ty). slice_get (map type_of vs) p.0) o
by_place None vs = refl
by_place (Some p) vs = sym (slice_get-map type_of vs p.0)

none_there : (o : Option (ℕ × Ty)) → None ≡ option_and_then (λ (p : ℕ × Ty). slice_get {X = Ty} [] p.0) o
none_there None = refl
none_there (Some p) = refl

state_type : (look : Look) (number : ℕ) (fields : List Value) (scroll : ℕ) (name : List ℕ) → option_map type_of (field_of (state_of look number fields scroll) name) ≡ look_type look (map type_of fields) name
state_type (viewport axis) number fields scroll name = refl
state_type (component place props d) number [] scroll name = none_there (place_of d.fields name)
state_type (component place props d) number (v ∷ vs) scroll name = by_place (place_of d.fields name) (v ∷ vs)
state_type _ number fields scroll name = refl

abbrev type_by : Option Head → List ℕ → Option Ty
type_by None name = None
type_by (Some h) name = look_type h.look h.types name

field_type : (o : Option PlainNode) (name : List ℕ) → option_map type_of (field_at o name) ≡ type_by (heads o) name
field_type None name = refl
field_type (Some (node number w fields scroll index ns)) name = state_type (look_of w) number fields scroll name

-- a field is a number, or its node isn't there
abbrev pub IsNumberAt : Option PlainNode → List ℕ → Type 0
IsNumberAt o name = option_map type_of (field_at o name) ≡ Some ty.Int

abbrev pub MayBeNumber : Option PlainNode → List ℕ → Type 0
MayBeNumber o name = (o ≡ None) ⊎ IsNumberAt o name

pub none_too : (a b : Option PlainNode) → heads b ≡ heads a → a ≡ None → b ≡ None
none_too a None e h = refl
none_too a (Some n) e h = let no : heads (Some n) ≡ None = e ∙ ap heads h in cc

pub number_too : (a b : Option PlainNode) (name : List ℕ) → heads b ≡ heads a → MayBeNumber a name → MayBeNumber b name
number_too a b name e (inl none) = inl (none_too a b e none)
number_too a b name e (inr is) = inr (field_type b name ∙ ap (λ h. type_by h name) e ∙ sym (field_type a name) ∙ is)

pub gone_too : (a b : Option PlainNode) → heads b ≡ heads a → b ≡ None → a ≡ None
gone_too a b e h = none_too b a (sym e) h

-- ---- a number is read, and accepted

reads_number : (z : ℤ) → mag z < 2 ^ 63 → value_read ty.Int (signed_decimal z) ≡ Some (value.Int z)
unfolding value_read
reads_number z h =
    ap (option_and_then (value_from ty.Int)) (json_is z h) ∙ ap (λ o. option_map value.Int (result_ok (or_stop NotInteger o))) (integer_is z h)

of_type : (vs : List Value) (p : ℕ × Ty) (ts : List Ty) → map type_of vs ≡ ts → slice_get ts p.0 ≡ Some p.1 → option_map type_of (slice_get vs p.0) ≡ Some p.1
of_type vs p ts e at = sym (slice_get-map type_of vs p.0) ∙ ap (λ l. slice_get l p.0) e ∙ at

same_ty : (t u : Ty) → Some t ≡ Some u → t ≡ u
same_ty t u e = cc

abbrev Accepts : outcome.Outcome → Type 0
Accepts o = (next : SessionState) × (o ≡ outcome.done next [])

module _ (s : SessionState) (name : List ℕ) (z : ℤ) (fits : mag z < 2 ^ 63) where
  abbrev bytes : List ℕ
  bytes = signed_decimal z

  accepts_at : (number : ℕ) (d : Decl) (vs : List Value) (o : Option (ℕ × Ty)) → place_of d.fields name ≡ o → map type_of vs ≡ types_in d.fields
      → option_map type_of (option_and_then (λ (p : ℕ × Ty). slice_get vs p.0) o) ≡ Some ty.Int → Accepts (set_field number o bytes s)
  accepts_at number d vs None at types is = cc
  accepts_at number d vs (Some p) at types is =
      let int : p.1 ≡ ty.Int = same_ty p.1 ty.Int (sym (of_type vs p (types_in d.fields) types (place_typed d.fields name p.0 p.1 at)) ∙ is) in
      (with_field number p.0 (value.Int z) s, ap (λ r. set_to number p.0 r s) (ap (λ t. value_read t bytes) int ∙ reads_number z fits))

  accepts_held : (look : Look) (number : ℕ) (fields : List Value) (scroll : ℕ) → AllHaveTypes (state_of look number fields scroll) fields
      → option_map type_of (field_of (state_of look number fields scroll) name) ≡ Some ty.Int → Accepts (set_state (state_of look number fields scroll) name bytes s)
  accepts_held (viewport axis) number fields scroll types is = cc
  accepts_held (component place props d) number [] scroll types is = cc
  accepts_held (component place props d) number (v ∷ vs) scroll types is = accepts_at number d (v ∷ vs) (place_of d.fields name) refl types is
  accepts_held _ number fields scroll types is = cc

  accepts_node : (d : Declarations) (o : Option PlainNode) → IfSome o (IsWellBuilt d) → IsNumberAt o name → Accepts (set_node o name bytes s)
  accepts_node d None h is = cc
  accepts_node d (Some (node number w fields scroll index ns)) h is = accepts_held (look_of w) number fields scroll (types_stored d (node number w fields scroll index ns) h) is

  in_tree : (k : ℕ) → IsSoundState s → (o : Option PlainNode) → node_in s.tree k ≡ o → IfSome o (IsWellBuilt (declarations_of s.program))
  in_tree k sound None e = tt
  in_tree k sound (Some m) e = built_in (declarations_of s.program) s.tree k m sound.tree e

  pub accepts : (k : ℕ) → IsSoundState s → IsNumberAt (node_in s.tree k) name → Accepts (step s (set_number k name z))
  accepts k sound is = accepts_node (declarations_of s.program) (node_in s.tree k) (in_tree k sound (node_in s.tree k) refl) is

  -- ---- and where one was accepted, the field is a number

  told_at : (number k : ℕ) (d : Decl) (vs : List Value) (p : ℕ × Ty) (r : Option Value) (next : SessionState) (text : List ℕ) → place_of d.fields name ≡ Some p → map type_of vs ≡ types_in d.fields
      → value_read p.1 bytes ≡ r → set_to number p.0 r s ≡ outcome.done next text → option_map type_of (slice_get vs p.0) ≡ Some ty.Int
  told_at number k d vs p None next text at types reads done = cc
  told_at number k d vs p (Some v) next text at types reads done =
      let int : p.1 ≡ ty.Int = sym (value_typed p.1 bytes v reads) ∙ ap type_of (value_is p.1 z v fits reads) in
      of_type vs p (types_in d.fields) types (place_typed d.fields name p.0 p.1 at) ∙ ap Some int

  told_place : (number : ℕ) (d : Decl) (vs : List Value) (o : Option (ℕ × Ty)) (next : SessionState) (text : List ℕ) → place_of d.fields name ≡ o → map type_of vs ≡ types_in d.fields
      → set_field number o bytes s ≡ outcome.done next text → option_map type_of (option_and_then (λ (p : ℕ × Ty). slice_get vs p.0) o) ≡ Some ty.Int
  told_place number d vs None next text at types done = cc
  told_place number d vs (Some p) next text at types done = told_at number number d vs p (value_read p.1 bytes) next text at types refl done

  told_held : (look : Look) (number : ℕ) (fields : List Value) (scroll : ℕ) (next : SessionState) (text : List ℕ) → AllHaveTypes (state_of look number fields scroll) fields
      → set_state (state_of look number fields scroll) name bytes s ≡ outcome.done next text → option_map type_of (field_of (state_of look number fields scroll) name) ≡ Some ty.Int
  told_held (viewport axis) number fields scroll next text types done = cc
  told_held (component place props d) number [] scroll next text types done = cc
  told_held (component place props d) number (v ∷ vs) scroll next text types done = told_place number d (v ∷ vs) (place_of d.fields name) next text refl types done
  told_held _ number fields scroll next text types done = cc

  told_node : (d : Declarations) (o : Option PlainNode) (next : SessionState) (text : List ℕ) → IfSome o (IsWellBuilt d) → set_node o name bytes s ≡ outcome.done next text → IsNumberAt o name
  told_node d None next text h done = cc
  told_node d (Some (node number w fields scroll index ns)) next text h done =
      told_held (look_of w) number fields scroll next text (types_stored d (node number w fields scroll index ns) h) done

  pub told : (k : ℕ) (next : SessionState) (text : List ℕ) → IsSoundState s → step s (set_number k name z) ≡ outcome.done next text → IsNumberAt (node_in s.tree k) name
  told k next text sound done = told_node (declarations_of s.program) (node_in s.tree k) next text (in_tree k sound (node_in s.tree k) refl) done
