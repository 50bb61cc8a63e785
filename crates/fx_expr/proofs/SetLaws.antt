-- What sets keep of the fields, one after another.
use Rattle.std.proofs.Common.{◌≡◌, ℕ, zero, suc, ◌+◌, ◌<◌, ◌≤◌, ℤ, Some, List, [], ◌∷◌, length, map, drop, get_or, slice_get, slice_set, refl, sym, ◌∙◌, ap, subst}
use Rattle.std.proofs.lemmas.List.{drop_more, drop_all}
use Rattle.fx_expr.specs.declared.values.Value.{Value}
use Rattle.fx_expr.specs.declared.values.Value.TheVariants.{Int, Bool, Text, Ints, Texts}
use Rattle.fx_expr.specs.contracts.values.ValueClone.TheImpl.{by_variants}
use Rattle.fx_expr.specs.declared.values.Ty.{Ty}
use Rattle.std.specs.List.{AllZip}
use Rattle.fx_expr.specs.declared.exprs.Expr.{Expr}
use Rattle.fx_expr.specs.Value.{type_of}
use Rattle.fx_expr.specs.Exp.{Exp}
use Rattle.fx_expr.specs.Scope.{fields_alone}
use Rattle.fx_expr.specs.ValueOf.{value_of}
use Rattle.fx_expr.specs.Sets.{FitFields, fields_after}
use Rattle.fx_expr.specs.View.{exp_of, set_of}
use Rattle.fx_expr.specs.TypeLaws.{value_of-typed}
use Rattle.fx_expr.proofs.Typing.{typed_as}

-- a value of the field's type leaves the fields' types as they are
types_kept : (vs : List Value) (i : ℕ) (v : Value) (t : Ty) → slice_get (map type_of vs) i ≡ Some t → type_of v ≡ t → map type_of (slice_set vs i v) ≡ map type_of vs
types_kept [] i v t e is = refl
types_kept (w ∷ vs) zero v t e is = let same : type_of v ≡ type_of w = cc in ap (λ u. u ∷ map type_of vs) same
types_kept (w ∷ vs) (suc i) v t e is = ap (λ us. type_of w ∷ us) (types_kept vs i v t e is)

-- the later sets fit the fields that the first one leaves
fit_after : (fields : List Value) (sets : List (ℕ × Expr)) (first : ℕ × Expr) (later : List (ℕ × Expr)) (v : Value) (x y : ℤ)
    → FitFields (map type_of fields) (map set_of sets) → sets ≡ first ∷ later → v ≡ value_of (exp_of first.1) (fields_alone fields x y)
    → FitFields (map type_of (slice_set fields first.0 v)) (map set_of later)
fit_after fields sets first later v x y fit is made =
    let fit' = subst (λ ss. FitFields (map type_of fields) (map set_of ss)) is fit in
    let typed = typed_as (exp_of first.1) (fields_alone fields x y) fit'.0.0 v fit'.0.3 made in
    rw (types_kept fields first.0 v fit'.0.0 fit'.0.1 typed) fit'.1

-- the first of the sets that are left
pub next_set : (sets : List (ℕ × Expr)) (i : ℕ) (set : ℕ × Expr) → i < length sets → set ≡ get_or sets i set → drop i sets ≡ set ∷ drop (i + 1) sets
next_set sets i set below is = drop_more sets i set below ∙ ap (λ s. s ∷ drop (i + 1) sets) (sym is)

-- it fits by itself
pub first_fits : (types : List Ty) (sets later : List (ℕ × Expr)) (first : ℕ × Expr) → FitFields types (map set_of sets) → sets ≡ first ∷ later
    → FitFields types (set_of first ∷ [])
first_fits types sets later first fit is =
    let fit' = subst (λ ss. FitFields types (map set_of ss)) is fit in
    (fit'.0, tt)

-- what the sets do is what the later ones do after the first
pub one_done : (fields after whole : List Value) (sets later : List (ℕ × Expr)) (first : ℕ × Expr) (x y : ℤ)
    → fields_after (map set_of sets) fields x y ≡ whole → sets ≡ first ∷ later → after ≡ fields_after (set_of first ∷ []) fields x y
    → fields_after (map set_of later) after x y ≡ whole
one_done fields after whole sets later first x y so_far is made =
    ap (λ fs. fields_after (map set_of later) fs x y) made ∙ sym (ap (λ ss. fields_after (map set_of ss) fields x y) is) ∙ so_far

pub rest_fits : (fields after : List Value) (sets later : List (ℕ × Expr)) (first : ℕ × Expr) (x y : ℤ)
    → FitFields (map type_of fields) (map set_of sets) → sets ≡ first ∷ later → after ≡ fields_after (set_of first ∷ []) fields x y
    → FitFields (map type_of after) (map set_of later)
rest_fits fields after sets later first x y fit is made =
    subst (λ fs. FitFields (map type_of fs) (map set_of later)) (sym made) (fit_after fields sets first later (value_of (exp_of first.1) (fields_alone fields x y)) x y fit is refl)

-- where none is left, all are done
pub all_done : (fields whole : List Value) (sets : List (ℕ × Expr)) (i : ℕ) (x y : ℤ) → length sets ≤ i
    → fields_after (map set_of (drop i sets)) fields x y ≡ whole → fields ≡ whole
all_done fields whole sets i x y past so_far = sym (ap (λ ss. fields_after (map set_of ss) fields x y) (drop_all i sets past)) ∙ so_far

-- the sets keep the fields' types
pub fields_after-typed : (sets : List (ℕ × Exp)) (fields : List Value) (dx dy : ℤ) → FitFields (map type_of fields) sets
    → map type_of (fields_after sets fields dx dy) ≡ map type_of fields
fields_after-typed [] fields dx dy fit = refl
fields_after-typed (set ∷ sets) fields dx dy fit =
    let v : Value = value_of set.1 (fields_alone fields dx dy) in
    let kept = types_kept fields set.0 v fit.0.0 fit.0.1 (value_of-typed set.1 (fields_alone fields dx dy) fit.0.0 fit.0.3) in
    let later : FitFields (map type_of (slice_set fields set.0 v)) sets = subst (λ ts. FitFields ts sets) (sym kept) fit.1 in
    fields_after-typed sets (slice_set fields set.0 v) dx dy later ∙ kept

-- a copy of fields has the same values
clone_is : (v w : Value) → by_variants v w → w ≡ v
clone_is (Int a) (Int b) e = ap Int e
clone_is (Bool a) (Bool b) e = ap Bool e
clone_is (Text a) (Text b) e = ap Text e
clone_is (Ints a) (Ints b) e = ap Ints e
clone_is (Texts a) (Texts b) e = ap Texts e
clone_is v w e = absurd e

pub clones_are : (vs ws : List Value) → AllZip by_variants vs ws → ws ≡ vs
clones_are [] [] e = refl
clones_are (v ∷ vs) (w ∷ ws) e = let here = clone_is v w e.0 in let later = clones_are vs ws e.1 in cc
clones_are [] (w ∷ ws) e = absurd e
clones_are (v ∷ vs) [] e = absurd e
