-- Sums of extents with gaps between them, and where each begins.
use Rattle.std.proofs.Common.{◌≡◌, ℕ, zero, suc, ◌+◌, ◌≤◌, max, arith, List, [], ◌∷◌, ◌++◌, take, ap, refl, ◌∙◌}
use Rattle.fx_geom.specs.Len.{stopped, length_sum}
use Rattle.wrap_table.specs.Stretches.{greatest_of, spaced_extent, starts_from}

-- where one of two sums stops makes no difference
pub stopped_sum : (a b : ℕ) → stopped (stopped a + b) ≡ stopped (a + b)
stopped_sum a b = omega arith

pub stopped_sums : (a b c : ℕ) → length_sum (length_sum (stopped a) b) c ≡ stopped (a + b + c)
stopped_sums a b c = omega arith

pub stopped_after : (a b c : ℕ) → length_sum (stopped a) (length_sum b c) ≡ stopped (a + b + c)
stopped_after a b c = omega arith

-- what stands behind the first of some stretches
abbrev pub behind : ℕ → List ℕ → ℕ
behind gap [] = 0
behind gap (e ∷ es) = gap + spaced_extent gap (e ∷ es)

pub spaced_extent-first : (gap e : ℕ) (es : List ℕ) → spaced_extent gap (e ∷ es) ≡ e + behind gap es
spaced_extent-first gap e [] = omega arith
spaced_extent-first gap e (f ∷ es) = omega arith

-- one more stretch at the end
pub spaced_extent-last : (gap d : ℕ) (ds : List ℕ) (e : ℕ) → spaced_extent gap ((d ∷ ds) ++ e ∷ []) ≡ spaced_extent gap (d ∷ ds) + gap + e
spaced_extent-last gap d [] e = refl
spaced_extent-last gap d (f ∷ ds) e = let last = spaced_extent-last gap f ds e in omega (arith, last)

-- the first two as one
pub spaced_extent-joined : (gap a e : ℕ) (es : List ℕ) → stopped (spaced_extent gap (length_sum (length_sum a gap) e ∷ es)) ≡ stopped (spaced_extent gap (a ∷ e ∷ es))
spaced_extent-joined gap a e es =
    let joined = spaced_extent-first gap (length_sum (length_sum a gap) e) es in
    let first = spaced_extent-first gap e es in
    omega (arith, joined, first)

-- where one more stretch at the end begins
pub starts_from-last : (gap from d : ℕ) (ds : List ℕ) (e : ℕ)
    → starts_from gap from ((d ∷ ds) ++ e ∷ []) ≡ starts_from gap from (d ∷ ds) ++ stopped (from + spaced_extent gap (d ∷ ds) + gap) ∷ []
starts_from-last gap from d [] e = refl
starts_from-last gap from d (f ∷ ds) e =
    ap (λ ss. stopped from ∷ ss)
    (starts_from-last gap (from + d + gap) f ds e
    ∙ ap (λ n. starts_from gap (from + d + gap) (f ∷ ds) ++ n ∷ []) (regroup from d gap (spaced_extent gap (f ∷ ds))))
  where
    regroup : (a b c n : ℕ) → stopped (a + b + c + n + c) ≡ stopped (a + (b + c + n) + c)
    regroup a b c n = omega arith

-- the greatest with one more
pub greatest_of-last : (es : List ℕ) (e : ℕ) → greatest_of (es ++ e ∷ []) ≡ max (greatest_of es) e
greatest_of-last [] e = omega arith
greatest_of-last (d ∷ es) e = let last = greatest_of-last es e in omega (arith, last)

pub spaced_extent-start : (gap e : ℕ) (es : List ℕ) → stopped (spaced_extent gap (length_sum e 0 ∷ es)) ≡ stopped (spaced_extent gap (e ∷ es))
spaced_extent-start gap e es =
    let stop = spaced_extent-first gap (length_sum e 0) es in
    let first = spaced_extent-first gap e es in
    omega (arith, stop, first)

-- one more stretch at the end, where there are no gaps
pub sum-last : (es : List ℕ) (e : ℕ) → spaced_extent 0 (es ++ e ∷ []) ≡ spaced_extent 0 es + e
sum-last [] e = omega arith
sum-last (d ∷ es) e = let last = spaced_extent-last 0 d es e in omega (arith, last)

pub starts-last : (es : List ℕ) (e : ℕ) → starts_from 0 0 (es ++ e ∷ []) ≡ starts_from 0 0 es ++ stopped (spaced_extent 0 es) ∷ []
starts-last [] e = refl
starts-last (d ∷ es) e = starts_from-last 0 0 d es e ∙ ap (λ n. starts_from 0 0 (d ∷ es) ++ n ∷ []) (same (spaced_extent 0 (d ∷ es)))
  where
    same : (n : ℕ) → stopped (0 + n + 0) ≡ stopped n
    same n = omega arith

pub sum-first : (e : ℕ) (es : List ℕ) → spaced_extent 0 (e ∷ es) ≡ e + spaced_extent 0 es
sum-first e [] = omega arith
sum-first e (f ∷ es) = omega arith

-- the first of some stretches are no longer than all of them
pub sum-take : (k : ℕ) (es : List ℕ) → spaced_extent 0 (take k es) ≤ spaced_extent 0 es
sum-take zero es = omega arith
sum-take (suc k) [] = omega arith
sum-take (suc k) (e ∷ es) =
    let some = sum-first e (take k es) in
    let all = sum-first e es in
    let fewer = sum-take k es in
    omega (arith, some, all, fewer)
