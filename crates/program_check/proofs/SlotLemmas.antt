-- The names in a set of slots.
use Rattle.std.proofs.Common.{◌≡◌, ℕ, ◌+◌, ◌||◌, List, [], ◌∷◌, ◌++◌, Bool, true, false, cond, if◌then◌else◌, Option, Some, None, option_map, String, Global, string_bytes, ap, refl, sym, ◌∙◌, is_some}
use Rattle.std.specs.List.{position, position_from, list_any}
use Rattle.std.specs.String.{string_eq}
use Rattle.std.proofs.lemmas.List.{map-append}
use Rattle.std.proofs.lemmas.Iterator.Adapters.{position_from-zero}
use Rattle.indexmap.specs.IndexSet.{insert_key}
use Rattle.expr_check.proofs.NamesLemmas.{is_key}
use Rattle.program_check.specs.Place.{index_of}
use Rattle.program_check.specs.SlotsView.{slots_in}

one_later : {K : Type 0} (test : K → Bool) (i : ℕ) (xs : List K) → position_from test (i + 1) xs ≡ option_map (λ n. n + 1) (position_from test i xs)
one_later test i [] = refl
one_later test i (x ∷ xs) =
    elim (test x) as (λ b. cond b (Some (i + 1)) (position_from test (i + 1 + 1) xs) ≡ option_map (λ n. n + 1) (cond b (Some i) (position_from test (i + 1) xs))) [
      | true ↦ refl
      | false ↦ one_later test (i + 1) xs
    ]

index_of-from : (ks : List (String Global)) (name : List ℕ) → index_of (slots_in ks) name ≡ position_from (is_key name) 0 ks
index_of-from [] name = refl
index_of-from (k ∷ ks) name =
    elim (is_key name k)
    as (λ b. (if b then Some 0 else option_map (λ i. i + 1) (index_of (slots_in ks) name)) ≡ cond b (Some 0) (position_from (is_key name) (0 + 1) ks)) [
      | true ↦ refl
      | false ↦ ap (option_map (λ i. i + 1)) (index_of-from ks name) ∙ sym (one_later (is_key name) 0 ks)
    ]

-- a slot's place is that of the first key that it equals
pub index_of-keys : (ks : List (String Global)) (name : List ℕ) → index_of (slots_in ks) name ≡ position (is_key name) ks
index_of-keys ks name = index_of-from ks name ∙ sym (position_from-zero (is_key name) ks)

some_later : (o : Option ℕ) → is_some (option_map (λ i. i + 1) o) ≡ is_some o
some_later (Some i) = refl
some_later None = refl

-- it is there exactly where the set has the key
pub is_some-index_of : (ks : List (String Global)) (name : List ℕ) → is_some (index_of (slots_in ks) name) ≡ list_any (is_key name) ks
is_some-index_of [] name = refl
is_some-index_of (k ∷ ks) name =
    elim (is_key name k)
    as (λ b. is_some (if b then Some 0 else option_map (λ i. i + 1) (index_of (slots_in ks) name)) ≡ (b || list_any (is_key name) ks)) [
      | true ↦ refl
      | false ↦ some_later _ ∙ is_some-index_of ks name
    ]

-- one more slot at the end
pub slots_in-new : (ks : List (String Global)) (k : String Global) → list_any (is_key (string_bytes k)) ks ≡ false
    → slots_in (insert_key string_eq ks k) ≡ slots_in ks ++ string_bytes k ∷ []
slots_in-new ks k e = ap (λ b. slots_in (if b then ks else ks ++ k ∷ [])) e ∙ map-append string_bytes ks (k ∷ [])
