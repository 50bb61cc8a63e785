-- What is left of the places below a node, one place after another.
use Rattle.std.proofs.Common.{◌≡◌, ap, refl, sym, ◌∙◌, ℕ, zero, suc, ◌+◌, ◌<◌, ◌≤◌, Option, Some, None, List, [], ◌∷◌, length, drop, get_or, arith}
use Rattle.std.proofs.lemmas.List.{at_drop_more, at_drop_all}
use Rattle.plain_tree.specs.Laid.{Laid, laid, no_laids, more_laids, Stood, count_of, counts_of}
use Rattle.laid_cursor.specs.Opened.{opened, laids_at}

-- a place at which nothing stands, and one at which a laid child does
pub none_there : (ps : List (Option Stood)) (i : ℕ) → i < length ps → None ≡ get_or ps i None → laids_at (drop i ps) ≡ laids_at (drop (i + 1) ps)
none_there ps i within is =
    at_drop_more (λ l. laids_at l) ps i None within ∙ ap (λ p. laids_at (p ∷ drop (i + 1) ps)) (sym is)

pub one_there : (ps : List (Option Stood)) (i : ℕ) (c : Stood) → i < length ps → Some c ≡ get_or ps i None
    → laids_at (drop i ps) ≡ more_laids c.at c.child (laids_at (drop (i + 1) ps))
one_there ps i c within is =
    at_drop_more (λ l. laids_at l) ps i None within ∙ ap (λ p. laids_at (p ∷ drop (i + 1) ps)) (sym is)

-- after the last place nothing is left
pub none_left : (ps : List (Option Stood)) (i : ℕ) → length ps ≤ i → laids_at (drop i ps) ≡ no_laids
none_left ps i past = at_drop_all (λ l. laids_at l) ps i past

-- a child is one of the laid nodes below
pub child_within : (ps : List (Option Stood)) (i : ℕ) (c : Stood) → Some c ≡ get_or ps i None → count_of c.child ≤ counts_of (laids_at ps)
child_within [] i c is = absurd (unlike c is)
  where
    unlike : (c : Stood) → Some c ≡ None → ⊥
    unlike c e = cc
child_within (None ∷ ps) zero c is = absurd (unlike c is)
  where
    unlike : (c : Stood) → Some c ≡ None → ⊥
    unlike c e = cc
child_within (Some d ∷ ps) zero c is = let same : count_of c.child ≡ count_of d.child = ap (λ (x : Stood). count_of x.child) (same_one c d is) in omega arith
  where
    same_one : (c d : Stood) → Some c ≡ Some d → c ≡ d
    same_one c d e = cc
child_within (None ∷ ps) (suc i) c is = child_within ps i c is
child_within (Some d ∷ ps) (suc i) c is = let rest : count_of c.child ≤ counts_of (laids_at ps) = child_within ps i c is in omega arith

-- a node is one more than those below it
pub one_more : (l : Laid) → count_of l ≡ suc (counts_of (opened l).below)
one_more (laid number look facts children) = refl

-- so a child is fewer than its parent
pub child_fewer : (ps : List (Option Stood)) (i : ℕ) (c : Stood) (l : Laid) → (opened l).below ≡ laids_at ps → Some c ≡ get_or ps i None → count_of c.child < count_of l
child_fewer ps i c l below is =
    let within : count_of c.child ≤ counts_of (laids_at ps) = child_within ps i c is in
    let same : counts_of (opened l).below ≡ counts_of (laids_at ps) = ap counts_of below in
    let more = one_more l in
    omega arith
