-- The entries of a list, over the values that the program holds.
use Rattle.std.proofs.lemmas.Bool.{le-leb, lt-leb}
use Rattle.std.proofs.lemmas.Grind.{common_steps}
use Rattle.std.proofs.Common.{◌≡◌, ◌≢◌, ℕ, zero, suc, arith, ◌+◌, ◌++◌, max, ◌<◌, ◌≤◌, List, [], ◌∷◌, length, get_or, drop, map, Ok, nat_le, true, false, if◌then◌else◌, add-one, ap, ap₂, subst, sym, refl, ◌∙◌}
use Rattle.std.proofs.lemmas.List.{at_drop_more, map-append}
use Rattle.serde_json.specs.Data.{Data, Items, depth, items_depth}
use Rattle.json_tree.specs.View.{view, items_view}
use Rattle.json_tree.specs.declared.tree.Json.{Json}
use Rattle.program_read.specs.declared.fault.ShapeCode.TheVariants.{OverLimit, WrongCount}
use Rattle.program_read.specs.ShapeFault.{ShapeWalk, stops, at_entry, and_then, given, each}
use Rattle.program_read.specs.FormWalk.{one_of}
use Rattle.program_read.specs.Leaves.{walks, count_of, two_of, three_of}
use Rattle.program_read.proofs.WalkLemmas.{resumed, resumed-last}

-- as many entries as values
pub count_of-items_view : (vs : List Json) → count_of (items_view vs) ≡ length vs
count_of-items_view [] = refl
count_of-items_view (v ∷ vs) = ap (λ n. n + 1) (count_of-items_view vs) ∙ add-one (length vs)

-- a list that is longer than so much, and one that isn't
pub count-over : (vs : List Json) (limit : ℕ) → limit < length vs → nat_le (count_of (items_view vs)) limit ≡ false
count-over vs limit h = lt-leb (count_of (items_view vs)) limit (subst (λ n. limit < n) (sym (count_of-items_view vs)) h)

pub count-within : (vs : List Json) (limit : ℕ) → length vs ≤ limit → nat_le (count_of (items_view vs)) limit ≡ true
count-within vs limit h = le-leb (count_of (items_view vs)) limit (subst (λ n. n ≤ limit) (sym (count_of-items_view vs)) h)

-- the entries, where there are at most so many
abbrev pub at_most : ℕ → Items → ShapeWalk Items
at_most limit ds = if nat_le (count_of ds) limit then Ok ds else stops OverLimit

pub at_most-over : (vs : List Json) (limit : ℕ) → limit < length vs → at_most limit (items_view vs) ≡ stops OverLimit
at_most-over vs limit h = ap (λ b. if b then Ok (items_view vs) else stops OverLimit) (count-over vs limit h)

pub at_most-within : (vs : List Json) (limit : ℕ) → length vs ≤ limit → at_most limit (items_view vs) ≡ Ok (items_view vs)
at_most-within vs limit h = ap (λ b. if b then Ok (items_view vs) else stops OverLimit) (count-within vs limit h)

-- another number of entries than one, two or three
pub one_of-other : (vs : List Json) → length vs ≢ 1 → one_of (items_view vs) ≡ stops WrongCount
one_of-other [] h = refl
one_of-other (a ∷ []) h = absurd (h refl)
one_of-other (a ∷ b ∷ vs) h = refl

pub two_of-other : (vs : List Json) → length vs ≢ 2 → two_of (items_view vs) ≡ stops WrongCount
two_of-other [] h = refl
two_of-other (a ∷ []) h = refl
two_of-other (a ∷ b ∷ []) h = absurd (h refl)
two_of-other (a ∷ b ∷ c ∷ vs) h = refl

pub three_of-other : (vs : List Json) → length vs ≢ 3 → three_of (items_view vs) ≡ stops WrongCount
three_of-other [] h = refl
three_of-other (a ∷ []) h = refl
three_of-other (a ∷ b ∷ []) h = refl
three_of-other (a ∷ b ∷ c ∷ []) h = absurd (h refl)
three_of-other (a ∷ b ∷ c ∷ d ∷ vs) h = refl

-- the entry at a place, and those after it
pub entries-at : {A : Type 0} (xs : List A) (i : ℕ) (x : A) → i < length xs → x ≡ get_or xs i x → drop i xs ≡ x ∷ drop (i + 1) xs
entries-at xs i x less is = at_drop_more (λ ys. ys) xs i x less ∙ ap (λ y. y ∷ drop (i + 1) xs) (sym is)

-- how deep the entry at a place is
pub depth-at : (vs : List Json) (i : ℕ) (v : Json) → i < length vs → v ≡ get_or vs i v → depth (view v) ≤ items_depth (items_view vs)
depth-at [] i v less is = absurd (grind (arith, common_steps))
depth-at (x ∷ vs) zero v less is = let same : depth (view v) ≡ depth (view x) = ap (λ y. depth (view y)) is in grind arith
depth-at (x ∷ vs) (suc i) v less is = no_deeper (depth (view x)) _ _ (depth-at vs i v (grind (arith, common_steps)) is)
  where
    no_deeper : (a b c : ℕ) → b ≤ c → b ≤ max a c
    no_deeper a b c h = grind arith

-- the next entry's walk gives a value
pub each-step : {A : Type 0} (walk : Data → ShapeWalk A) (vs : List Json) (v : Json) (rest : List Json) (i j : ℕ) (whole : ShapeWalk (List A)) (before after : List A) (x : A)
    → vs ≡ v ∷ rest → whole ≡ resumed before (each i (walks walk (items_view vs))) → walk (view v) ≡ Ok x → after ≡ before ++ x ∷ [] → i + 1 ≡ j
    → whole ≡ resumed after (each j (walks walk (items_view rest)))
each-step walk vs v rest i j whole before after x is e h l n =
    let later = each (i + 1) (walks walk (items_view rest)) in
    e ∙ ap (λ ws. resumed before (each i (walks walk (items_view ws)))) is
    ∙ ap (λ y. resumed before (and_then (at_entry i y) (λ x. given (λ xs. x ∷ xs) later))) h
    ∙ resumed-last before x later ∙ ap₂ (λ xs k. resumed xs (each k (walks walk (items_view rest)))) (sym l) n

-- the same where what was given is the plain look of what was read
pub each-read : {X A : Type 0} (walk : Data → ShapeWalk A) (plain : X → A) (vs : List Json) (v : Json) (rest : List Json) (i j : ℕ) (whole : ShapeWalk (List A)) (before after : List X) (x : X)
    → vs ≡ v ∷ rest → whole ≡ resumed (map plain before) (each i (walks walk (items_view vs))) → walk (view v) ≡ Ok (plain x) → after ≡ before ++ x ∷ [] → i + 1 ≡ j
    → whole ≡ resumed (map plain after) (each j (walks walk (items_view rest)))
each-read walk plain vs v rest i j whole before after x is e h l n =
    each-step walk vs v rest i j whole (map plain before) (map plain after) (plain x) is e h (ap (map plain) l ∙ map-append plain before (x ∷ [])) n

-- how deep entries are: the next one, and those after it
pub items_depth-first : (vs : List Json) (v : Json) (rest : List Json) → vs ≡ v ∷ rest → items_depth (items_view vs) ≡ max (depth (view v)) (items_depth (items_view rest))
items_depth-first vs v rest is = ap (λ xs. items_depth (items_view xs)) is
