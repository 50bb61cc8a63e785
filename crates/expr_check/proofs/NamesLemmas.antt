-- Names in a map, and the last of a name.
use Rattle.std.proofs.lemmas.Grind.{common_steps}
use Rattle.std.specs.Prelude.{slice_get}
use Rattle.std.proofs.Common.{arith, ◌<◌, length, get_or, drop, take, ◌≡◌, ℕ, zero, suc, ◌+◌, add-one, List, [], ◌∷◌, ◌++◌, Bool, true, false, cond, if◌then◌else◌, Option, Some, None, option_map, String, Global, string_bytes, ap, refl, sym, ◌∙◌, is_some, is_none}
use Rattle.std.specs.List.{position, position_from}
use Rattle.std.specs.Map.{keys_of, lookup}
use Rattle.std.specs.Str.{bytes_eq}
use Rattle.std.proofs.lemmas.Iterator.Adapters.{position_from-zero}
use Rattle.fx_expr.specs.declared.values.Ty.{Ty}
use Rattle.std.specs.Option.{option_or}
use Rattle.expr_check.specs.Names.{NamedTypes, place_of, one_later, latest_of}
use Rattle.expr_check.specs.NamesView.{names_in}

-- a place and the type there
abbrev pub paired : Option ℕ → Option Ty → Option (ℕ × Ty)
paired (Some i) (Some t) = Some (i, t)
paired (Some i) None = None
paired None t = None

later_pair : (i : ℕ) (t : Ty) → one_later (i, t) ≡ (suc i, t)
later_pair i t = ap (λ n. (n, t)) (add-one i)

paired-later : (i : Option ℕ) (t : Option Ty) → option_map one_later (paired i t) ≡ paired (option_map suc i) t
paired-later (Some i) (Some t) = ap Some (later_pair i t)
paired-later (Some i) None = refl
paired-later None t = refl

position_from-suc : {K : Type 0} (test : K → Bool) (i : ℕ) (xs : List K) → position_from test (i + 1) xs ≡ option_map suc (position_from test i xs)
position_from-suc test i [] = refl
position_from-suc test i (x ∷ xs) =
    elim (test x) as (λ b. cond b (Some (i + 1)) (position_from test (i + 1 + 1) xs) ≡ option_map suc (cond b (Some i) (position_from test (i + 1) xs))) [
      | true ↦ ap Some (add-one i)
      | false ↦ position_from-suc test (i + 1) xs
    ]

-- the test of a map's key against a name
abbrev pub is_key : List ℕ → String Global → Bool
is_key name k = bytes_eq name (string_bytes k)

place_of-from : (es : List (String Global × Ty)) (name : List ℕ)
    → place_of (names_in es) name ≡ paired (position_from (is_key name) 0 (keys_of es)) (lookup (is_key name) es)
place_of-from [] name = refl
place_of-from (e ∷ es) name =
    elim (is_key name e.0)
    as (λ b. (if b then Some (0, e.1) else option_map one_later (place_of (names_in es) name))
    ≡ paired (cond b (Some 0) (position_from (is_key name) (0 + 1) (keys_of es))) (cond b (Some e.1) (lookup (is_key name) es))) [
      | true ↦ refl
      | false ↦ ap (option_map one_later) (place_of-from es name) ∙ paired-later _ _
          ∙ ap (λ i. paired i (lookup (is_key name) es)) (sym (position_from-suc (is_key name) 0 (keys_of es)))
    ]

-- a name's place is that of the first key that it equals, with the type there
pub place_of-names_in : (es : List (String Global × Ty)) (name : List ℕ)
    → place_of (names_in es) name ≡ paired (position (is_key name) (keys_of es)) (lookup (is_key name) es)
place_of-names_in es name =
    place_of-from es name ∙ ap (λ i. paired i (lookup (is_key name) es)) (sym (position_from-zero (is_key name) (keys_of es)))

-- it is there exactly where the map has the key
is_some-later : (o : Option (ℕ × Ty)) → is_some (option_map one_later o) ≡ is_some o
is_some-later (Some p) = refl
is_some-later None = refl

pub is_some-place_of : (es : List (String Global × Ty)) (name : List ℕ) → is_some (place_of (names_in es) name) ≡ is_some (lookup (is_key name) es)
is_some-place_of [] name = refl
is_some-place_of (e ∷ es) name =
    elim (is_key name e.0)
    as (λ b. is_some (if b then Some (0, e.1) else option_map one_later (place_of (names_in es) name)) ≡ is_some (cond b (Some e.1) (lookup (is_key name) es))) [
      | true ↦ refl
      | false ↦ is_some-later _ ∙ is_some-place_of es name
    ]

-- a name that the map hasn't
pub absent : {A B : Type 0} (o : Option A) (q : Option B) → is_some o ≡ is_some q → is_none o ≡ is_none q
absent (Some x) (Some y) e = refl
absent (Some x) None e = cc
absent None (Some y) e = cc
absent None None e = refl

pub none_of_absent : {A : Type 0} (o : Option A) → is_some o ≡ false → o ≡ None
none_of_absent (Some x) e = cc
none_of_absent None e = refl

pub is_none-some : {A : Type 0} (o : Option A) (b : Bool) → is_some o ≡ b → is_none o ≡ (if b then false else true)
is_none-some (Some x) b e = ap (λ c. if c then false else true) e
is_none-some None b e = ap (λ c. if c then false else true) e

-- one more name at the end
pub names_in-append : (es fs : List (String Global × Ty)) → names_in (es ++ fs) ≡ names_in es ++ names_in fs
names_in-append [] fs = refl
names_in-append (e ∷ es) fs = ap (λ ds. (string_bytes e.0, e.1) ∷ ds) (names_in-append es fs)

-- the last of a name, where none stands later
pub latest_of-at : (ds : NamedTypes) (name : List ℕ) (i : ℕ) (d : List ℕ × Ty) → i < length ds → d ≡ get_or ds i d → bytes_eq name d.0 ≡ true
    → latest_of (drop (suc i) ds) name ≡ None → latest_of ds name ≡ Some (i, d.1)
latest_of-at [] name i d h e t n = absurd (grind (arith, common_steps))
latest_of-at (x ∷ ds) name zero d h e t n =
    ap (λ later. option_or (option_map one_later later) (if bytes_eq name x.0 then Some (0, x.1) else None)) n
    ∙ ap (λ y. if bytes_eq name y.0 then Some (0, y.1) else None) (sym e)
    ∙ ap (λ b. if b then Some (0, d.1) else None) t
latest_of-at (x ∷ ds) name (suc i) d h e t n =
    ap (λ later. option_or (option_map one_later later) (if bytes_eq name x.0 then Some (0, x.1) else None))
    (latest_of-at ds name i d (grind (arith, common_steps)) e t n)
    ∙ ap Some (later_pair i d.1)

-- ---- the names one by one

pub listed-more : (ds : NamedTypes) (i : ℕ) (d : List ℕ × Ty) (before later : NamedTypes) → before ≡ take i ds → Some d ≡ slice_get ds i → later ≡ before ++ d ∷ []
    → later ≡ take (i + 1) ds
listed-more ds i d before later b there l = l ∙ ap (λ xs. xs ++ d ∷ []) b ∙ sym (taken ds i d there)
  where
    taken : (ds : NamedTypes) (i : ℕ) (d : List ℕ × Ty) → Some d ≡ slice_get ds i → take (i + 1) ds ≡ take i ds ++ d ∷ []
    taken [] i d there = cc there
    taken (x ∷ ds) zero d there = let same : x ≡ d = cc in ap (λ y. y ∷ []) same
    taken (x ∷ ds) (suc i) d there = ap (λ n. take n (x ∷ ds)) (add-one (suc i)) ∙ ap (λ xs. x ∷ xs) (ap (λ n. take n ds) (sym (add-one i)) ∙ taken ds i d there)

pub listed-past : (ds : NamedTypes) (i : ℕ) → i < length ds → None ≡ slice_get ds i → ⊥
listed-past [] i h e = absurd (omega arith)
listed-past (x ∷ ds) zero h e = cc e
listed-past (x ∷ ds) (suc i) h e = listed-past ds i (omega arith) e
