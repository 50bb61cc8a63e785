-- A check that gives an expression gives one of its type: what that means, and for names in scope.
use Rattle.std.proofs.Common.{◌≡◌, ℕ, add-one, List, [], ◌∷◌, Bool, true, false, if◌then◌else◌, Option, Some, None, option_map, Ok, Err, ap, subst, refl, ◌∙◌}
use Rattle.std.specs.Prelude.{slice_get, ⊤}
use Rattle.std.specs.Str.{bytes_eq}
use Rattle.fx_expr.specs.declared.values.Ty.{Ty}
use Rattle.fx_expr.specs.Scope.{Types}
use Rattle.fx_expr.specs.Typed.{IsTyped}
use Rattle.expr_check.specs.declared.fault.CheckCode.TheVariants.{WrongType}
use Rattle.expr_check.specs.Check.{Check, and_then, given}
use Rattle.std.specs.Option.{option_or}
use Rattle.expr_check.specs.Names.{NamedTypes, place_of, latest_of, one_later, types_in}
use Rattle.expr_check.specs.Exprs.{TypedExp}

-- whatever the check gives has its type
abbrev pub Sound : Types → Check TypedExp → Type 0
Sound T check = (r : TypedExp) → check ≡ Ok r → IsTyped T r.exp r.ty

abbrev pub AllSound : Types → List (Check TypedExp) → Type 0
AllSound T [] = Unit {0}
AllSound T (check ∷ checks) = Sound T check × AllSound T checks

-- what stands in a check that gives something
pub ok_is : {A : Type 0} {x y : A} → (let P : Check A = Ok x in P ≡ Ok y) → x ≡ y
ok_is e = cc

pub and_then-ok : {A B : Type 0} (check : Check A) (next : A → Check B) (r : B) → and_then check next ≡ Ok r → (x : A) × ((check ≡ Ok x) × (next x ≡ Ok r))
and_then-ok (Ok x) next r e = (x, (refl, e))
and_then-ok (Err code) next r e = cc

pub given-ok : {A B : Type 0} (f : A → B) (check : Check A) (r : B) → given f check ≡ Ok r → (x : A) × ((check ≡ Ok x) × (f x ≡ r))
given-ok f (Ok x) r e = (x, (refl, ok_is e))
given-ok f (Err code) r e = cc

pub test-ok : (b : Bool) (x : ⊤) → (if b then Ok tt else Err WrongType) ≡ Ok x → b ≡ true
test-ok true x e = refl
test-ok false x e = cc

-- ---- names in scope

some_is : {A : Type 0} (x y : A) → Some x ≡ Some y → x ≡ y
some_is x y e = cc

abbrev HasPlace : NamedTypes → ℕ × Ty → Type 0
HasPlace ds p = slice_get (types_in ds) p.0 ≡ Some p.1

later_place : (d : List ℕ × Ty) (ds : NamedTypes) (p : ℕ × Ty) → HasPlace ds p → HasPlace (d ∷ ds) (one_later p)
later_place d ds p h = ap (slice_get (d.1 ∷ types_in ds)) (add-one p.0) ∙ h

place_here : (d : List ℕ × Ty) (ds : NamedTypes) (b : Bool) (o : Option (ℕ × Ty)) → ((q : ℕ × Ty) → o ≡ Some q → HasPlace ds q)
    → (p : ℕ × Ty) → (if b then Some (0, d.1) else option_map one_later o) ≡ Some p → HasPlace (d ∷ ds) p
place_here d ds true o h p e = subst (HasPlace (d ∷ ds)) (some_is _ p e) refl
place_here d ds false (Some q) h p e = subst (HasPlace (d ∷ ds)) (some_is _ p e) (later_place d ds q (h q refl))
place_here d ds false None h p e = cc

pub place_of-type : (ds : NamedTypes) (name : List ℕ) (p : ℕ × Ty) → place_of ds name ≡ Some p → HasPlace ds p
place_of-type [] name p e = cc
place_of-type (d ∷ ds) name p e = place_here d ds (bytes_eq name d.0) (place_of ds name) (place_of-type ds name) p e

latest_here : (d : List ℕ × Ty) (ds : NamedTypes) (b : Bool) (o : Option (ℕ × Ty)) → ((q : ℕ × Ty) → o ≡ Some q → HasPlace ds q)
    → (p : ℕ × Ty) → option_or (option_map one_later o) (if b then Some (0, d.1) else None) ≡ Some p → HasPlace (d ∷ ds) p
latest_here d ds b (Some q) h p e = subst (HasPlace (d ∷ ds)) (some_is _ p e) (later_place d ds q (h q refl))
latest_here d ds true None h p e = subst (HasPlace (d ∷ ds)) (some_is _ p e) refl
latest_here d ds false None h p e = cc

pub latest_of-type : (ds : NamedTypes) (name : List ℕ) (p : ℕ × Ty) → latest_of ds name ≡ Some p → HasPlace ds p
latest_of-type [] name p e = cc
latest_of-type (d ∷ ds) name p e = latest_here d ds (bytes_eq name d.0) (latest_of ds name) (latest_of-type ds name) p e
