-- Operands whose types were tested make an operator's expression of its type.
use Rattle.std.proofs.Common.{arith, ◌≡◌, suc, length, List, [], ◌∷◌, true, ◌==◌, Some, Ok, ap, subst, refl, sym}
use Rattle.std.proofs.lemmas.Grind.{common_steps}
use Rattle.std.proofs.lemmas.Bool.Decides.{nat_tests}
use Rattle.fx_expr.specs.declared.values.Ty.{Ty}
use Rattle.fx_expr.specs.declared.values.Ty.TheVariants as ty
use Rattle.fx_expr.specs.Exp.{Exp, exps_of}
use Rattle.fx_expr.specs.Scope.{Types}
use Rattle.fx_expr.specs.Typed.{item_type, IsList, IsJoinable, IsTyped, AreTyped}
use Rattle.program_form.specs.declared.operators.Operator.{Operator}
use Rattle.program_form.specs.declared.operators.Operator.TheVariants as op
use Rattle.program_form.specs.Operators.{takes}
use Rattle.expr_check.specs.declared.wants.Want.{Want}
use Rattle.expr_check.specs.declared.wants.Want.TheVariants as want
use Rattle.expr_check.specs.declared.wants.Seen.{Seen}
use Rattle.expr_check.specs.Check.{Check, and_then, given}
use Rattle.expr_check.specs.Wants.{same_ty, is_list, is_joinable, meets, item_of, none_seen, with_type, wanted, given_type}
use Rattle.expr_check.specs.Built.{built}
use Rattle.expr_check.specs.Exprs.{TypedExp, TypedOperands, with_front, fits, typed_operands}
use Rattle.expr_check.proofs.Sound.{AllSound, ok_is, and_then-ok, given-ok, test-ok}

-- an operand has a type, which is one of those asked for
pub record Operand (T : Types) (want : Want) (e : Exp) (t : Ty) : Type 0 where
  pub typed : IsTyped T e t
  pub meets : meets want t ≡ true

-- operands in order, each with what is asked of it after the earlier ones
abbrev pub Fit : Types → Operator → Seen → List Exp → Seen → Type 0
Fit T operator seen [] final = seen ≡ final
Fit T operator seen (e ∷ es) final = (t : Ty) × (Operand T (wanted operator seen) e t × Fit T operator (with_type seen t) es final)

-- ---- what the tests of types tell

pub same_ty-is : (u t : Ty) → same_ty u t ≡ true → u ≡ t
same_ty-is ty.Int ty.Int h = refl
same_ty-is ty.Bool ty.Bool h = refl
same_ty-is ty.Text ty.Text h = refl
same_ty-is ty.Ints ty.Ints h = refl
same_ty-is ty.Texts ty.Texts h = refl
same_ty-is u t h = cc

exactly : (T : Types) (u : Ty) (e : Exp) (t : Ty) → Operand T (want.Exactly u) e t → IsTyped T e u
exactly T u e t o = subst (IsTyped T e) (sym (same_ty-is u t o.meets)) o.typed

item_of-list : (t : Ty) → is_list t ≡ true → item_type t ≡ Some (item_of t)
item_of-list ty.Ints h = refl
item_of-list ty.Texts h = refl
item_of-list ty.Int h = cc
item_of-list ty.Bool h = cc
item_of-list ty.Text h = cc

list_is : (t : Ty) → is_list t ≡ true → IsList t
list_is t h = (item_of t, item_of-list t h)

joinable_is : (t : Ty) → is_joinable t ≡ true → IsJoinable t
joinable_is ty.Text h = tt
joinable_is ty.Ints h = tt
joinable_is ty.Texts h = tt
joinable_is ty.Int h = cc
joinable_is ty.Bool h = cc

-- ---- how many operands there are

one : (P : List Exp → Type 0) → ((a : Exp) → P (a ∷ [])) → (es : List Exp) → (length es == 1) ≡ true → P es
one P f [] h = absurd (grind (arith, nat_tests, common_steps))
one P f (a ∷ []) h = f a
one P f (a ∷ b ∷ es) h = absurd (grind (arith, nat_tests, common_steps))

two : (P : List Exp → Type 0) → ((a b : Exp) → P (a ∷ b ∷ [])) → (es : List Exp) → (length es == 2) ≡ true → P es
two P f [] h = absurd (grind (arith, nat_tests, common_steps))
two P f (a ∷ []) h = absurd (grind (arith, nat_tests, common_steps))
two P f (a ∷ b ∷ []) h = f a b
two P f (a ∷ b ∷ c ∷ es) h = absurd (grind (arith, nat_tests, common_steps))

three : (P : List Exp → Type 0) → ((a b c : Exp) → P (a ∷ b ∷ c ∷ [])) → (es : List Exp) → (length es == 3) ≡ true → P es
three P f [] h = absurd (grind (arith, nat_tests, common_steps))
three P f (a ∷ []) h = absurd (grind (arith, nat_tests, common_steps))
three P f (a ∷ b ∷ []) h = absurd (grind (arith, nat_tests, common_steps))
three P f (a ∷ b ∷ c ∷ []) h = f a b c
three P f (a ∷ b ∷ c ∷ d ∷ es) h = absurd (grind (arith, nat_tests, common_steps))

-- ---- operator by operator

abbrev Whole : Types → Operator → Seen → List Exp → Type 0
Whole T operator final es = Fit T operator none_seen es final → IsTyped T (built operator es) (given_type operator final)

items : (T : Types) (u : Ty) (operator : Operator) → ((seen : Seen) → wanted operator seen ≡ want.Exactly u) → (es : List Exp) (seen final : Seen)
    → Fit T operator seen es final → AreTyped T (exps_of es) u
items T u operator asks [] seen final f = tt
items T u operator asks (e ∷ es) seen final f =
    (exactly T u e f.0 (subst (λ w. Operand T w e f.0) (asks seen) f.1.0), items T u operator asks es (with_type seen f.0) final f.1.1)

-- the type of the whole at the types that were seen
seen_is : (T : Types) (operator : Operator) (e : Exp) (seen final : Seen) → seen ≡ final → IsTyped T e (given_type operator seen) → IsTyped T e (given_type operator final)
seen_is T operator e seen final h typed = subst (λ s. IsTyped T e (given_type operator s)) h typed

pub whole_typed : (T : Types) (operator : Operator) (es : List Exp) (final : Seen) → takes operator (length es) ≡ true → Whole T operator final es
whole_typed T op.Ints es final n = λ f. (refl, items T ty.Int op.Ints (λ seen. refl) es none_seen final f)
whole_typed T op.Texts es final n = λ f. (refl, items T ty.Text op.Texts (λ seen. refl) es none_seen final f)
whole_typed T op.Add es final n = two (Whole T op.Add final) (λ a b f. (refl, exactly T ty.Int a f.0 f.1.0, exactly T ty.Int b f.1.1.0 f.1.1.1.0)) es n
whole_typed T op.Sub es final n = two (Whole T op.Sub final) (λ a b f. (refl, exactly T ty.Int a f.0 f.1.0, exactly T ty.Int b f.1.1.0 f.1.1.1.0)) es n
whole_typed T op.Mul es final n = two (Whole T op.Mul final) (λ a b f. (refl, exactly T ty.Int a f.0 f.1.0, exactly T ty.Int b f.1.1.0 f.1.1.1.0)) es n
whole_typed T op.Div es final n = two (Whole T op.Div final) (λ a b f. (refl, exactly T ty.Int a f.0 f.1.0, exactly T ty.Int b f.1.1.0 f.1.1.1.0)) es n
whole_typed T op.Mod es final n = two (Whole T op.Mod final) (λ a b f. (refl, exactly T ty.Int a f.0 f.1.0, exactly T ty.Int b f.1.1.0 f.1.1.1.0)) es n
whole_typed T op.Equal es final n = two (Whole T op.Equal final) (λ a b f. (refl, (f.0, f.1.0.typed, exactly T f.0 b f.1.1.0 f.1.1.1.0))) es n
whole_typed T op.Less es final n = two (Whole T op.Less final) (λ a b f. (refl, exactly T ty.Int a f.0 f.1.0, exactly T ty.Int b f.1.1.0 f.1.1.1.0)) es n
whole_typed T op.And es final n = two (Whole T op.And final) (λ a b f. (refl, exactly T ty.Bool a f.0 f.1.0, exactly T ty.Bool b f.1.1.0 f.1.1.1.0)) es n
whole_typed T op.Or es final n = two (Whole T op.Or final) (λ a b f. (refl, exactly T ty.Bool a f.0 f.1.0, exactly T ty.Bool b f.1.1.0 f.1.1.1.0)) es n
whole_typed T op.Not es final n = one (Whole T op.Not final) (λ a f. (refl, exactly T ty.Bool a f.0 f.1.0)) es n
whole_typed T op.If es final n =
    three (Whole T op.If final) (λ a b c f.
    seen_is T op.If (built op.If (a ∷ b ∷ c ∷ [])) _ final f.1.1.1.1.1.1
    (exactly T ty.Bool a f.0 f.1.0, f.1.1.1.0.typed, exactly T f.1.1.0 c f.1.1.1.1.0 f.1.1.1.1.1.0)) es n
whole_typed T op.Cat es final n =
    two (Whole T op.Cat final) (λ a b f.
    seen_is T op.Cat (built op.Cat (a ∷ b ∷ [])) _ final f.1.1.1.1
    (joinable_is f.0 f.1.0.meets, f.1.0.typed, exactly T f.0 b f.1.1.0 f.1.1.1.0)) es n
whole_typed T op.Len es final n = one (Whole T op.Len final) (λ a f. (refl, (f.0, list_is f.0 f.1.0.meets, f.1.0.typed))) es n
whole_typed T op.At es final n =
    three (Whole T op.At final) (λ a b c f.
    seen_is T op.At (built op.At (a ∷ b ∷ c ∷ [])) _ final f.1.1.1.1.1.1
    ((f.0, item_of-list f.0 f.1.0.meets, f.1.0.typed), exactly T ty.Int b f.1.1.0 f.1.1.1.0, exactly T (item_of f.0) c f.1.1.1.1.0 f.1.1.1.1.1.0)) es n
whole_typed T op.Push es final n =
    two (Whole T op.Push final) (λ a b f.
    seen_is T op.Push (built op.Push (a ∷ b ∷ [])) _ final f.1.1.1.1
    (item_of f.0, item_of-list f.0 f.1.0.meets, f.1.0.typed, exactly T (item_of f.0) b f.1.1.0 f.1.1.1.0)) es n
whole_typed T op.Drop es final n =
    two (Whole T op.Drop final) (λ a b f.
    seen_is T op.Drop (built op.Drop (a ∷ b ∷ [])) _ final f.1.1.1.1
    (list_is f.0 f.1.0.meets, f.1.0.typed, exactly T ty.Int b f.1.1.0 f.1.1.1.0)) es n
whole_typed T op.Reverse es final n =
    one (Whole T op.Reverse final) (λ a f. seen_is T op.Reverse (built op.Reverse (a ∷ [])) _ final f.1.1 (list_is f.0 f.1.0.meets, f.1.0.typed)) es n
whole_typed T op.Range es final n = one (Whole T op.Range final) (λ a f. (refl, exactly T ty.Int a f.0 f.1.0)) es n
whole_typed T op.Show es final n = one (Whole T op.Show final) (λ a f. (refl, exactly T ty.Int a f.0 f.1.0)) es n

-- ---- operands that were tested

pub operands_fit : (T : Types) (operator : Operator) (seen : Seen) (checks : List (Check TypedExp)) → AllSound T checks
    → (r : TypedOperands) → typed_operands operator seen checks ≡ Ok r → Fit T operator seen r.exps r.seen × (length r.exps ≡ length checks)
operands_fit T operator seen [] sound r e =
    subst (λ r. Fit T operator seen r.exps r.seen × (length r.exps ≡ 0)) (ok_is e) (refl, refl)
operands_fit T operator seen (check ∷ checks) sound r e =
    let first = and_then-ok check (λ o. and_then (fits (wanted operator seen) o.ty) (λ _.
    given (with_front o.exp) (typed_operands operator (with_type seen o.ty) checks))) r e in
    let o : TypedExp = first.0 in
    let test = and_then-ok (fits (wanted operator seen) o.ty) (λ _. given (with_front o.exp) (typed_operands operator (with_type seen o.ty) checks)) r first.1.1 in
    let later = given-ok (with_front o.exp) (typed_operands operator (with_type seen o.ty) checks) r test.1.1 in
    let rest = operands_fit T operator (with_type seen o.ty) checks sound.1 later.0 later.1.0 in
    let here : Operand T (wanted operator seen) o.exp o.ty = record { typed = sound.0 o first.1.0; meets = test-ok (meets (wanted operator seen) o.ty) test.0 test.1.0 } in
    subst (λ r. Fit T operator seen r.exps r.seen × (length r.exps ≡ suc (length checks))) later.1.1
    ((o.ty, (here, rest.0)), ap suc rest.1)
