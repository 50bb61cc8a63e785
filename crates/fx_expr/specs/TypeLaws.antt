-- Laws of typed expressions, for this crate and the proofs of those above it: a name that is typed has a value of its type, and a
-- typed expression's value has the expression's type.
use Rattle.std.proofs.Common.{◌≡◌, ℕ, zero, suc, Bool, true, false, cond, ℤ, Option, Some, None, List, [], ◌∷◌, map, slice_get, unwrap_or, refl, sym, ◌∙◌, ap}
use Rattle.std.specs.Option.{option_map}
use Rattle.fx_expr.specs.declared.values.Value.{Value}
use Rattle.fx_expr.specs.declared.values.Value.TheVariants as value
use Rattle.fx_expr.specs.declared.values.Ty.{Ty}
use Rattle.fx_expr.specs.declared.values.Ty.TheVariants as ty
use Rattle.fx_expr.specs.Value.{type_of, joined_values, place_of, item_at, with_last, without_item, reversed_value}
use Rattle.fx_expr.specs.Exp.{Exp, literal, field, prop, variable, inherited, event_dx, event_dy, ints, texts, add, subtract, multiply, divide, rest, equal, less, both, either, negated, choose, cat, len, item, push, without, reversed, range, show}
use Rattle.fx_expr.specs.Scope.{Env, types_in, value_at}
use Rattle.fx_expr.specs.ValueOf.{value_of}
use Rattle.fx_expr.specs.Typed.{item_type, IsTyped}

-- a name that is typed
pub value_at-typed : (vs : List Value) (i : ℕ) (t : Ty) → slice_get (map type_of vs) i ≡ Some t → type_of (value_at vs i) ≡ t
value_at-typed [] i t e = cc
value_at-typed (v ∷ vs) zero t e = cc
value_at-typed (v ∷ vs) (suc i) t e = value_at-typed vs i t e

choice_typed : (b : Bool) (v w : Value) (t : Ty) → type_of v ≡ t → type_of w ≡ t → type_of (cond b v w) ≡ t
choice_typed true v w t p q = p
choice_typed false v w t p q = q

joined-typed : (v w : Value) → type_of (joined_values v w) ≡ type_of v
joined-typed (value.Int n) w = refl
joined-typed (value.Bool b) w = refl
joined-typed (value.Text s) (value.Int n) = refl
joined-typed (value.Text s) (value.Bool b) = refl
joined-typed (value.Text s) (value.Text t) = refl
joined-typed (value.Text s) (value.Ints ns) = refl
joined-typed (value.Text s) (value.Texts ts) = refl
joined-typed (value.Ints s) (value.Int n) = refl
joined-typed (value.Ints s) (value.Bool b) = refl
joined-typed (value.Ints s) (value.Text t) = refl
joined-typed (value.Ints s) (value.Ints ns) = refl
joined-typed (value.Ints s) (value.Texts ts) = refl
joined-typed (value.Texts s) (value.Int n) = refl
joined-typed (value.Texts s) (value.Bool b) = refl
joined-typed (value.Texts s) (value.Text t) = refl
joined-typed (value.Texts s) (value.Ints ns) = refl
joined-typed (value.Texts s) (value.Texts ts) = refl

with_last-typed : (v w : Value) → type_of (with_last v w) ≡ type_of v
with_last-typed (value.Int n) w = refl
with_last-typed (value.Bool b) w = refl
with_last-typed (value.Text s) w = refl
with_last-typed (value.Ints s) (value.Int n) = refl
with_last-typed (value.Ints s) (value.Bool b) = refl
with_last-typed (value.Ints s) (value.Text t) = refl
with_last-typed (value.Ints s) (value.Ints ns) = refl
with_last-typed (value.Ints s) (value.Texts ts) = refl
with_last-typed (value.Texts s) (value.Int n) = refl
with_last-typed (value.Texts s) (value.Bool b) = refl
with_last-typed (value.Texts s) (value.Text t) = refl
with_last-typed (value.Texts s) (value.Ints ns) = refl
with_last-typed (value.Texts s) (value.Texts ts) = refl

without_item-typed : (v : Value) (i : ℤ) → type_of (without_item v i) ≡ type_of v
without_item-typed (value.Int n) i = refl
without_item-typed (value.Bool b) i = refl
without_item-typed (value.Text s) i = refl
without_item-typed (value.Ints s) i = refl
without_item-typed (value.Texts s) i = refl

reversed_value-typed : (v : Value) → type_of (reversed_value v) ≡ type_of v
reversed_value-typed (value.Int n) = refl
reversed_value-typed (value.Bool b) = refl
reversed_value-typed (value.Text s) = refl
reversed_value-typed (value.Ints s) = refl
reversed_value-typed (value.Texts s) = refl

int_item : (o : Option ℤ) (d : Value) (t : Ty) → ty.Int ≡ t → type_of d ≡ t → type_of (unwrap_or (option_map value.Int o) d) ≡ t
int_item None d t a e = e
int_item (Some n) d t a e = a

text_item : (o : Option (List ℕ)) (d : Value) (t : Ty) → ty.Text ≡ t → type_of d ≡ t → type_of (unwrap_or (option_map value.Text o) d) ≡ t
text_item None d t a e = e
text_item (Some n) d t a e = a

-- an item of a list has the type of its items
item_at-typed : (l : Value) (i : ℤ) (d : Value) (t u : Ty) → item_type u ≡ Some t → type_of l ≡ u → type_of d ≡ t → type_of (unwrap_or (item_at l i) d) ≡ t
item_at-typed (value.Int n) i d t u a b e = e
item_at-typed (value.Bool n) i d t u a b e = e
item_at-typed (value.Text n) i d t u a b e = e
item_at-typed (value.Ints ns) i d t u a b e = int_item (place_of ns i) d t (let f : Some ty.Int ≡ Some t = ap item_type b ∙ a in cc) e
item_at-typed (value.Texts ts) i d t u a b e = text_item (place_of ts i) d t (let f : Some ty.Text ≡ Some t = ap item_type b ∙ a in cc) e

-- an expression that is typed
pub value_of-typed : (e : Exp) (s : Env) (t : Ty) → IsTyped (types_in s) e t → type_of (value_of e s) ≡ t
value_of-typed (literal v) s t h = sym h
value_of-typed (field i) s t h = value_at-typed s.fields i t h
value_of-typed (prop i) s t h = value_at-typed s.props i t h
value_of-typed (variable i) s t h = value_at-typed s.vars i t h
value_of-typed (inherited i) s t h = value_at-typed s.inherited i t h
value_of-typed event_dx s t h = sym h
value_of-typed event_dy s t h = sym h
value_of-typed (ints es) s t h = sym h.0
value_of-typed (texts es) s t h = sym h.0
value_of-typed (add a b) s t h = sym h.0
value_of-typed (subtract a b) s t h = sym h.0
value_of-typed (multiply a b) s t h = sym h.0
value_of-typed (divide a b) s t h = sym h.0
value_of-typed (rest a b) s t h = sym h.0
value_of-typed (equal a b) s t h = sym h.0
value_of-typed (less a b) s t h = sym h.0
value_of-typed (both a b) s t h = sym h.0
value_of-typed (either a b) s t h = sym h.0
value_of-typed (negated a) s t h = sym h.0
value_of-typed (choose c a b) s t h = choice_typed _ _ _ t (value_of-typed a s t h.1) (value_of-typed b s t h.2)
value_of-typed (cat a b) s t h = joined-typed _ _ ∙ value_of-typed a s t h.1
value_of-typed (len l) s t h = sym h.0
value_of-typed (item l i d) s t h = item_at-typed _ _ _ t h.0.0 h.0.1 (value_of-typed l s h.0.0 h.0.2) (value_of-typed d s t h.2)
value_of-typed (push l x) s t h = with_last-typed _ _ ∙ value_of-typed l s t h.2
value_of-typed (without l i) s t h = without_item-typed _ _ ∙ value_of-typed l s t h.1
value_of-typed (reversed l) s t h = reversed_value-typed _ ∙ value_of-typed l s t h.1
value_of-typed (range n) s t h = sym h.0
value_of-typed (show n) s t h = sym h.0
