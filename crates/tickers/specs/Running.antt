-- The tweens that run, in the order in which they were started.
use Rattle.std.specs.Prelude.{◌≡◌, ℕ, ◌+◌, Bool, false, ◌&&◌, not, ◌==◌, List, [], ◌∷◌, ◌++◌, Option, Some, None, is_some, filter, slice_set, nat_lt, nat_le, length, take, drop}
use Rattle.std.specs.List.{AllPairs, position}
use Rattle.std.specs.Str.{bytes_eq}
use Rattle.tickers.specs.declared.tween.Tween.{Tween}

-- a tween is on this field of this node
abbrev pub is_on : ℕ → List ℕ → Tween → Bool
is_on node field t = (t.node == node) && bytes_eq t.field field

-- some tween is: there is a first one
abbrev pub has : List Tween → ℕ → List ℕ → Bool
has ts node field = is_some (position (is_on node field) ts)

-- the tweens with another in a place, or after all of them
abbrev pub put : Option ℕ → Tween → List Tween → List Tween
put (Some i) t ts = slice_set ts i t
put None t ts = ts ++ t ∷ []

-- the tweens where another is started: it takes the place of the first on its field, and else stands last
abbrev pub started : Tween → List Tween → List Tween
started t ts = put (position (is_on t.node t.field) ts) t ts

-- the tweens without those on this field of this node
abbrev pub cancelled : ℕ → List ℕ → List Tween → List Tween
cancelled node field ts = filter (λ t. not (is_on node field t)) ts

-- the tweens that still go on at a time
abbrev pub unfinished : ℕ → List Tween → List Tween
unfinished now ts = filter (λ t. nat_lt now (t.start + t.ms)) ts

-- so many tweens run at once at most
abbrev pub max_tweens : ℕ
max_tweens = 256

-- so many run, and none is on this field of this node
abbrev pub is_full : List Tween → ℕ → List ℕ → Bool
is_full ts node field = nat_le max_tweens (length ts) && not (has ts node field)

-- the tweens without the one in a place
abbrev pub without_at : ℕ → List Tween → List Tween
without_at i ts = take i ts ++ drop (i + 1) ts

-- no two tweens are on one field of one node: none is on the field of one before it
abbrev pub AreApart : List Tween → Type 0
AreApart ts = AllPairs (λ t u. is_on t.node t.field u ≡ false) ts
