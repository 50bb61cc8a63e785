-- The inherited names that stand in a template, as they are collected.
use Rattle.std.proofs.Common.{◌≡◌, ℕ, zero, suc, ◌+◌, ◌<◌, List, [], ◌∷◌, ◌++◌, map, length, get_or, cond, Bool, true, false, ◌||◌, ap, refl, sym, ◌∙◌, subst, arith, Option, Result, Ok, Err, OnOk, IfOk, Vec, Global}
use Rattle.std.specs.Prelude.{filter}
use Rattle.std.specs.List.{range_with_len}
use Rattle.std.proofs.lemmas.List.Elements.{filter-append}
use Rattle.std.proofs.lemmas.List.FromFn.{map-range_with_len_more, length-map-range_with_len, get_or-map-range_with_len}
use Rattle.std.specs.Global.{Box}
use Rattle.fx_expr.specs.Places.{is_among, AddsPlaces}
use Rattle.fx_expr.specs.PlaceLaws.{adds_two}
use Rattle.program_check.specs.declared.checked.Body.{Body}
use Rattle.program_check.specs.declared.checked.BodyPart.{BodyPart}
use Rattle.program_check.specs.Body.{PlainBody, members_in}
use Rattle.program_check.specs.BodyView.{plain_body, plain_members, plain_body_key_member}
use Rattle.program_check.specs.Decl.{reads_in_key, reads_in_body, reads_in_members, marked_places, names_read}
use Rattle.program_check.proofs.BodyLemmas.{plain_body-out}

-- one place more
numbers-more : (from n : ℕ) → range_with_len from (n + 1) ≡ range_with_len from n ++ (from + n) ∷ []
numbers-more from n = sym (map-same from (n + 1)) ∙ map-range_with_len_more (λ i. i) from n (from + n) refl ∙ ap (λ xs. xs ++ (from + n) ∷ []) (map-same from n)
  where
    map-same : (a n : ℕ) → map (λ i. i) (range_with_len a n) ≡ range_with_len a n
    map-same a zero = refl
    map-same a (suc n) = ap (λ xs. a ∷ xs) (map-same (a + 1) n)

abbrev pub chosen_below : List Bool → ℕ → List ℕ
chosen_below marks n = filter (λ i. get_or marks i false) (range_with_len 0 n)

chosen-more : (marks : List Bool) (n : ℕ) → chosen_below marks (n + 1) ≡ chosen_below marks n ++ filter (λ i. get_or marks i false) (n ∷ [])
chosen-more marks n =
    ap (filter (λ i. get_or marks i false)) (numbers-more 0 n ∙ ap (λ k. range_with_len 0 n ++ k ∷ []) (let none : 0 + n ≡ n = omega arith in none))
    ∙ filter-append (λ i. get_or marks i false) (range_with_len 0 n) (n ∷ [])

pub chosen-marked : (marks : List Bool) (n : ℕ) (before later : List ℕ) → before ≡ chosen_below marks n → get_or marks n false ≡ true → later ≡ before ++ n ∷ []
    → later ≡ chosen_below marks (n + 1)
chosen-marked marks n before later b m l =
    l ∙ ap (λ xs. xs ++ n ∷ []) b ∙ sym (chosen-more marks n ∙ ap (λ c. chosen_below marks n ++ cond c (n ∷ []) []) m)

append-none : (xs : List ℕ) → xs ++ [] ≡ xs
append-none [] = refl
append-none (x ∷ xs) = ap (λ ys. x ∷ ys) (append-none xs)

pub chosen-unmarked : (marks : List Bool) (n : ℕ) (before : List ℕ) → before ≡ chosen_below marks n → get_or marks n false ≡ false → before ≡ chosen_below marks (n + 1)
chosen-unmarked marks n before b m =
    b ∙ sym (chosen-more marks n ∙ ap (λ c. chosen_below marks n ++ cond c (n ∷ []) []) m ∙ append-none (chosen_below marks n))

-- ---- marks by the places that were collected, and the names that are read

filter-below : (P Q : ℕ → Bool) (from n : ℕ) → ((i : ℕ) → i < from + n → P i ≡ Q i) → filter P (range_with_len from n) ≡ filter Q (range_with_len from n)
filter-below P Q from zero h = refl
filter-below P Q from (suc n) h =
    ap (λ b. cond b (from ∷ filter P (range_with_len (from + 1) n)) (filter P (range_with_len (from + 1) n))) (h from (omega arith))
    ∙ ap (λ xs. cond (Q from) (from ∷ xs) xs) (filter-below P Q (from + 1) n (λ i below. h i (omega arith)))

pub names_read-marked : (count : ℕ) (b : PlainBody) (places : List ℕ) (marks : List Bool) → marks ≡ map (λ place. is_among place places) (range_with_len 0 count)
    → AddsPlaces [] places (λ i. reads_in_body i b) → marked_places marks ≡ names_read count b
names_read-marked count b places marks m added =
    ap marked_places m
    ∙ ap (λ n. chosen_below (map (λ place. is_among place places) (range_with_len 0 count)) n) (length-map-range_with_len (λ place. is_among place places) 0 count)
    ∙ filter-below (λ i. get_or (map (λ place. is_among place places) (range_with_len 0 count)) i false) (λ i. reads_in_body i b) 0 count
    (λ i below. get_or-map-range_with_len (λ place. is_among place places) 0 count i i false (omega arith) (omega arith) ∙ added i)

-- the key of a template, and then its members
pub body_done : {A E : Type 0} (r : Result A E) (b : Body) (ms : List (Option (Box BodyPart))) (old mid new : List ℕ) → ms ≡ b.members.items
    → AddsPlaces old mid (λ i. reads_in_key i (plain_body_key_member b.key))
    → OnOk r (AddsPlaces mid new (λ i. reads_in_members i (members_in (plain_members ms))))
    → OnOk r (AddsPlaces old new (λ i. reads_in_body i (plain_body b)))
body_done (Ok u) b ms old mid new e one two = λ i.
    adds_two old mid new (λ i. reads_in_key i (plain_body_key_member b.key)) (λ i. reads_in_members i (members_in (plain_members ms))) one two i
    ∙ ap (λ v. is_among i old || v) (
    ap (λ ms. reads_in_key i (plain_body_key_member b.key) || reads_in_members i (members_in (plain_members ms))) e
    ∙ sym (ap (reads_in_body i) (plain_body-out b)))
body_done (Err u) b ms old mid new e one two = tt

abbrev pub marks_of : ℕ → List ℕ → List Bool
marks_of count places = map (λ place. is_among place places) (range_with_len 0 count)

pub marks-length : (count : ℕ) (places : List ℕ) (marks : List Bool) → marks ≡ marks_of count places → length marks ≡ count
marks-length count places marks m = ap length m ∙ length-map-range_with_len (λ place. is_among place places) 0 count

-- the places that are chosen, of those that were collected
pub places_done : {E : Type 0} (r : Result (Vec ℕ Global) E) (count : ℕ) (b : PlainBody) (none collected shown : List ℕ) (marks read : List Bool) → none ≡ [] → shown ≡ collected → read ≡ marks
    → marks ≡ marks_of count shown → AddsPlaces none collected (λ i. reads_in_body i b) → IfOk r (λ places. places.items ≡ marked_places read)
    → IfOk r (λ names. names.items ≡ names_read count b)
places_done (Ok v) count b none collected shown marks read n s m e added chosen =
    chosen ∙ ap marked_places m
    ∙ names_read-marked count b shown marks e (subst (λ ps. AddsPlaces [] ps (λ i. reads_in_body i b)) (sym s) (subst (λ ps. AddsPlaces ps collected (λ i. reads_in_body i b)) n added))
places_done (Err x) count b none collected shown marks read n s m e added chosen = tt
