-- A list that a loop fills from another one, element by element: what is filled so far, and then f of what is left, is the whole.
use Rattle.std.proofs.Common.{◌≡◌, ap, sym, ◌∙◌, ℕ, ◌+◌, ◌<◌, ◌≤◌, List, [], ◌∷◌, ◌++◌, length, map, drop, get_or}
use Rattle.std.proofs.lemmas.List.{append_assoc, append-nil, at_drop_more, at_drop_all}

pub fills_start : {X Y : Type 0} (f : List X → List Y) (xs : List X) (before : List Y) → before ≡ [] → before ++ f xs ≡ f xs
fills_start {X} {Y} f xs before none = ap (λ (ys : List Y). ys ++ f xs) none

-- one more element, after which g says what is left
pub fills_on : {X Y : Type 0} (f g : List X → List Y) (xs : List X) (i : ℕ) (z : X) (here before after whole : List Y) → i < length xs
    → f (get_or xs i z ∷ drop (i + 1) xs) ≡ here ++ g (drop (i + 1) xs) → after ≡ before ++ here → before ++ f (drop i xs) ≡ whole
    → after ++ g (drop (i + 1) xs) ≡ whole
fills_on {X} {Y} f g xs i z here before after whole h step pushed same =
    ap (λ (ys : List Y). ys ++ g (drop (i + 1) xs)) pushed
    ∙ append_assoc before here (g (drop (i + 1) xs))
    ∙ ap (λ (ys : List Y). before ++ ys) (sym step ∙ sym (at_drop_more f xs i z h))
    ∙ same

pub fills_over : {X Y : Type 0} (f : List X → List Y) (xs : List X) (i : ℕ) (before whole : List Y) → f [] ≡ [] → length xs ≤ i
    → before ++ f (drop i xs) ≡ whole → before ≡ whole
fills_over {X} {Y} f xs i before whole none h same =
    sym (append-nil before) ∙ ap (λ (ys : List Y). before ++ ys) (sym (at_drop_all f xs i h ∙ none)) ∙ same

-- each element by itself
pub maps_on : {X Y : Type 0} (f : X → Y) (xs : List X) (i : ℕ) (z : X) (y : Y) (before after whole : List Y) → i < length xs → after ≡ before ++ y ∷ []
    → y ≡ f (get_or xs i z) → before ++ map f (drop i xs) ≡ whole → after ++ map f (drop (i + 1) xs) ≡ whole
maps_on {X} {Y} f xs i z y before after whole h pushed is same =
    fills_on (map f) (map f) xs i z (y ∷ []) before after whole h (ap (λ (w : Y). w ∷ map f (drop (i + 1) xs)) (sym is)) pushed same
