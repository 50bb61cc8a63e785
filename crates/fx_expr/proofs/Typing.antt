-- What a typed expression says of its parts, and of the names in it.
use Rattle.std.proofs.Common.{◌≡◌, ℕ, zero, suc, ◌<◌, Some, List, [], ◌∷◌, length, map, slice_get, sym, ◌∙◌, ap, subst, arith, rules}
use Rattle.fx_expr.specs.declared.values.Value.{Value}
use Rattle.fx_expr.specs.declared.values.Ty.{Ty}
use Rattle.fx_expr.specs.Value.{type_of}
use Rattle.fx_expr.specs.Exp.{Exp, field, prop, variable, inherited}
use Rattle.fx_expr.specs.Scope.{Env, types_in}
use Rattle.fx_expr.specs.ValueOf.{value_of}
use Rattle.fx_expr.specs.Typed.{item_type, IsList, IsTyped}
use Rattle.fx_expr.specs.TypeLaws.{value_of-typed}

-- a place whose type is known is in the list
pub place_below : (vs : List Value) (i : ℕ) (t : Ty) → slice_get (map type_of vs) i ≡ Some t → i < length vs
place_below [] i t e = cc
place_below (v ∷ vs) zero t e = omega arith
place_below (v ∷ vs) (suc i) t e = let h = place_below vs i t e in omega arith

-- ---- what the forms ask of their operands

-- a value has the type of the expression whose value it is
pub typed_as : (e : Exp) (s : Env) (t : Ty) (v : Value) → IsTyped (types_in s) e t → v ≡ value_of e s → type_of v ≡ t
typed_as e s t v h is = ap type_of is ∙ value_of-typed e s t h

pub list_typed : (e : Exp) (s : Env) (v : Value) → ((t : Ty) × IsList t × IsTyped (types_in s) e t) → v ≡ value_of e s → IsList (type_of v)
list_typed e s v h is = rw (typed_as e s h.0 v h.2 is) h.1

pub item_typed : (l x : Exp) (s : Env) (v w : Value)
    → ((t : Ty) × (u : Ty) × (item_type t ≡ Some u) × IsTyped (types_in s) l t × IsTyped (types_in s) x u)
    → v ≡ value_of l s → w ≡ value_of x s → item_type (type_of v) ≡ Some (type_of w)
item_typed l x s v w h p q =
    ap item_type (typed_as l s h.0 v h.3 p) ∙ h.2 ∙ ap Some (sym (typed_as x s h.1 w h.4 q))

-- a name that is typed has a value
pub field_below : (e : Exp) (s : Env) (i : ℕ) → e ≡ field i → ((t : Ty) × IsTyped (types_in s) e t) → i < length s.fields
field_below e s i is h = place_below s.fields i h.0 (subst (λ x. IsTyped (types_in s) x h.0) is h.1)

pub prop_below : (e : Exp) (s : Env) (i : ℕ) → e ≡ prop i → ((t : Ty) × IsTyped (types_in s) e t) → i < length s.props
prop_below e s i is h = place_below s.props i h.0 (subst (λ x. IsTyped (types_in s) x h.0) is h.1)

pub variable_below : (e : Exp) (s : Env) (i : ℕ) → e ≡ variable i → ((t : Ty) × IsTyped (types_in s) e t) → i < length s.vars
variable_below e s i is h = place_below s.vars i h.0 (subst (λ x. IsTyped (types_in s) x h.0) is h.1)

pub inherited_below : (e : Exp) (s : Env) (i : ℕ) → e ≡ inherited i → ((t : Ty) × IsTyped (types_in s) e t) → i < length s.inherited
inherited_below e s i is h = place_below s.inherited i h.0 (subst (λ x. IsTyped (types_in s) x h.0) is h.1)
