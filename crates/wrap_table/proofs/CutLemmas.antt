-- The cut of a Wrap's children into runs is one that meets the rules, and the only one.
use Rattle.std.proofs.Common.{◌≡◌, ℕ, ◌<◌, ◌≤◌, ◌⊎◌, inl, inr, arith, Bool, true, false, if◌then◌else◌, List, [], ◌∷◌, ◌++◌, length, map, append_assoc, append-nil, ap, ap₂, subst, sym, refl, ◌∙◌}
use Rattle.std.proofs.lemmas.Bool.Decides.{nat_tests}
use Rattle.std.proofs.lemmas.Grind.{common_steps}
use Rattle.std.proofs.lemmas.List.{map-append}
use Rattle.std.specs.List.{flat_map}
use Rattle.fx_geom.specs.declared.lengths.Len.{Len}
use Rattle.fx_geom.specs.declared.shapes.Size.{Size}
use Rattle.fx_geom.specs.Len.{limit_of}
use Rattle.wrap_table.specs.Stretches.{spaced_extent}
use Rattle.wrap_table.specs.Runs.{width_of, IsRun, IsEnded, AreRuns, IsCut, cut_after, cut_of, exceeds, runs_of}
use Rattle.wrap_table.proofs.ExtentLemmas.{spaced_extent-first}

-- ---- cuts

-- the stretches are the whole list
pub flat_map-cut_after : {A : Type 0} (ends : List A → A → Bool) (s xs : List A) → flat_map (λ run. run) (cut_after ends s xs) ≡ s ++ xs
flat_map-cut_after ends s [] = refl
flat_map-cut_after ends s (x ∷ xs) =
    elim (ends s x) as (λ b. flat_map (λ run. run) (if b then s ∷ cut_after ends (x ∷ []) xs else cut_after ends (s ++ x ∷ []) xs) ≡ s ++ x ∷ xs) [
      | true ↦ ap (λ ys. s ++ ys) (flat_map-cut_after ends (x ∷ []) xs)
      | false ↦ flat_map-cut_after ends (s ++ x ∷ []) xs ∙ append_assoc s (x ∷ []) xs
    ]

pub flat_map-cut_of : {A : Type 0} (ends : List A → A → Bool) (xs : List A) → flat_map (λ run. run) (cut_of ends xs) ≡ xs
flat_map-cut_of ends [] = refl
flat_map-cut_of ends (x ∷ xs) = flat_map-cut_after ends (x ∷ []) xs

-- ---- runs

not_exceeds : (limit : Len) (gap : ℕ) (run : List Size) (next : Size) → exceeds limit gap run next ≡ false → width_of gap (run ++ next ∷ []) ≤ limit_of limit
not_exceeds limit gap run next h = grind (arith, nat_tests)

does_exceed : (limit : Len) (gap : ℕ) (run : List Size) (next : Size) → exceeds limit gap run next ≡ true → limit_of limit < width_of gap (run ++ next ∷ [])
does_exceed limit gap run next h = grind (arith, nat_tests)

exceeds-false : (limit : Len) (gap : ℕ) (run : List Size) (next : Size) → width_of gap (run ++ next ∷ []) ≤ limit_of limit → exceeds limit gap run next ≡ false
exceeds-false limit gap run next h = grind (arith, nat_tests)

exceeds-true : (limit : Len) (gap : ℕ) (run : List Size) (next : Size) → limit_of limit < width_of gap (run ++ next ∷ []) → exceeds limit gap run next ≡ true
exceeds-true limit gap run next h = grind (arith, nat_tests)

-- a run ends before the first of the runs that begin with a child
ended : (limit : Len) (gap : ℕ) (run : List Size) (next : Size) (s xs : List Size) → limit_of limit < width_of gap (run ++ next ∷ []) → IsEnded limit gap run (cut_after (exceeds limit gap) (next ∷ s) xs)
ended limit gap run next s [] h = h
ended limit gap run next s (x ∷ xs) h =
    elim (exceeds limit gap (next ∷ s) x)
    as (λ b. IsEnded limit gap run (if b then (next ∷ s) ∷ cut_after (exceeds limit gap) (x ∷ []) xs else cut_after (exceeds limit gap) ((next ∷ s) ++ x ∷ []) xs)) [
      | true ↦ h
      | false ↦ ended limit gap run next (s ++ x ∷ []) xs h
    ]

some_more : (s : List Size) (x : Size) → 1 ≤ length (s ++ x ∷ [])
some_more s x = grind (arith, common_steps)

-- each child by child: it is in the run, or ends it
pub runs_after : (limit : Len) (gap : ℕ) (s xs : List Size) → IsRun limit gap s → AreRuns limit gap (cut_after (exceeds limit gap) s xs)
runs_after limit gap s [] run = (run, tt, tt)
runs_after limit gap s (x ∷ xs) run =
    elim (exceeds limit gap s x)
    as (λ b. exceeds limit gap s x ≡ b → AreRuns limit gap (if b then s ∷ cut_after (exceeds limit gap) (x ∷ []) xs else cut_after (exceeds limit gap) (s ++ x ∷ []) xs)) [
      | true ↦ λ e. (run, ended limit gap s x [] xs (does_exceed limit gap s x e), runs_after limit gap (x ∷ []) xs (record { some = omega arith; fits = inr refl }))
      | false ↦ λ e. runs_after limit gap (s ++ x ∷ []) xs (record { some = some_more s x; fits = inl (not_exceeds limit gap s x e) })
    ] refl

pub runs_of-is_cut : (limit : Len) (gap : ℕ) (children : List Size) → IsCut limit gap children (runs_of limit gap children)
runs_of-is_cut limit gap [] = record { whole = refl; each = tt }
runs_of-is_cut limit gap (x ∷ xs) = record {
  whole = flat_map-cut_after (exceeds limit gap) (x ∷ []) xs;
  each = runs_after limit gap (x ∷ []) xs (record { some = omega arith; fits = inr refl });
}

-- children are at most as wide as they are with more of them
extent_grows : (gap : ℕ) (es : List ℕ) (e : ℕ) (fs : List ℕ) → spaced_extent gap (es ++ e ∷ []) ≤ spaced_extent gap (es ++ e ∷ fs)
extent_grows gap [] e fs = let first = spaced_extent-first gap e fs in omega (arith, first)
extent_grows gap (d ∷ []) e fs = let first = spaced_extent-first gap e fs in omega (arith, first)
extent_grows gap (d ∷ c ∷ es) e fs = let more = extent_grows gap (c ∷ es) e fs in omega (arith, more)

width_grows : (gap : ℕ) (s : List Size) (x : Size) (xs : List Size) → width_of gap (s ++ x ∷ []) ≤ width_of gap (s ++ x ∷ xs)
width_grows gap s x xs =
    let w = λ (child : Size). child.w in
    let more = extent_grows gap (map w s) x.w (map w xs) in
    let short = ap (spaced_extent gap) (map-append w s (x ∷ [])) in
    let long = ap (spaced_extent gap) (map-append w s (x ∷ xs)) in
    omega (arith, more, short, long)

not_one : (s : List Size) (x : Size) (xs : List Size) → 1 ≤ length s → length (s ++ x ∷ xs) ≡ 1 → ⊥
not_one s x xs some one = grind (arith, common_steps)

-- a run of more than one child fits, also without the last of them
fits_with : (limit : Len) (gap : ℕ) (s : List Size) (x : Size) (rest : List Size) → 1 ≤ length s
    → (width_of gap (s ++ x ∷ rest) ≤ limit_of limit) ⊎ (length (s ++ x ∷ rest) ≡ 1) → width_of gap (s ++ x ∷ []) ≤ limit_of limit
fits_with limit gap s x rest some (inl fits) = let grows = width_grows gap s x rest in omega (arith, grows, fits)
fits_with limit gap s x rest some (inr one) = absurd (not_one s x rest some one)

-- what is left begins in the present run, or is the next one
pub only_runs : (limit : Len) (gap : ℕ) (left s rest : List Size) (more : List (List Size)) → left ≡ rest ++ flat_map (λ run. run) more → 1 ≤ length s
    → IsRun limit gap (s ++ rest) → IsEnded limit gap (s ++ rest) more → AreRuns limit gap more → (s ++ rest) ∷ more ≡ cut_after (exceeds limit gap) s left
only_runs limit gap [] s [] [] e some run end more = ap (λ r. r ∷ []) (append-nil s)
only_runs limit gap [] s [] ([] ∷ rs) e some run end more = absurd end
only_runs limit gap [] s [] ((x ∷ r) ∷ rs) e some run end more = cc
only_runs limit gap [] s (x ∷ rest) more e some run end runs = cc
only_runs limit gap (y ∷ left) s [] [] e some run end runs = cc
only_runs limit gap (y ∷ left) s [] ([] ∷ more) e some run end runs = absurd end
only_runs limit gap (y ∷ left) s [] ((x ∷ rest) ∷ more) e some run end runs =
    let same : y ≡ x = cc in
    let tail : left ≡ rest ++ flat_map (λ run. run) more = cc in
    let later = only_runs limit gap left (x ∷ []) rest more tail (omega arith) runs.0 runs.1 runs.2 in
    let over : exceeds limit gap s x ≡ true = exceeds-true limit gap s x (subst (λ r. limit_of limit < width_of gap (r ++ x ∷ [])) (append-nil s) end) in
    ap₂ (λ r rs. r ∷ rs) (append-nil s) later
    ∙ ap (λ b. if b then s ∷ cut_after (exceeds limit gap) (x ∷ []) left else cut_after (exceeds limit gap) (s ++ x ∷ []) left) (sym over)
    ∙ ap (λ z. cut_after (exceeds limit gap) s (z ∷ left)) (sym same)
only_runs limit gap (y ∷ left) s (x ∷ rest) more e some run end runs =
    let same : y ≡ x = cc in
    let tail : left ≡ rest ++ flat_map (λ run. run) more = cc in
    let join : (s ++ x ∷ []) ++ rest ≡ s ++ x ∷ rest = append_assoc s (x ∷ []) rest in
    let fits : width_of gap (s ++ x ∷ []) ≤ limit_of limit = fits_with limit gap s x rest some run.fits in
    let P : List Size → Type 0 = λ r. IsRun limit gap r in
    let Q : List Size → Type 0 = λ r. IsEnded limit gap r more in
    let later = only_runs limit gap left (s ++ x ∷ []) rest more tail (some_more s x) (subst P (sym join) run) (subst Q (sym join) end) runs in
    ap (λ r. r ∷ more) (sym join) ∙ later
    ∙ ap (λ b. if b then s ∷ cut_after (exceeds limit gap) (x ∷ []) left else cut_after (exceeds limit gap) (s ++ x ∷ []) left) (sym (exceeds-false limit gap s x fits))
    ∙ ap (λ z. cut_after (exceeds limit gap) s (z ∷ left)) (sym same)

pub only_cut : (limit : Len) (gap : ℕ) (children : List Size) (runs : List (List Size)) → IsCut limit gap children runs → runs ≡ runs_of limit gap children
only_cut limit gap [] [] cut = refl
only_cut limit gap [] ([] ∷ runs) cut = absurd (let some = cut.each.0.some in omega (arith, some))
only_cut limit gap [] ((x ∷ run) ∷ runs) cut = let e = cut.whole in cc
only_cut limit gap (y ∷ left) [] cut = let e = cut.whole in cc
only_cut limit gap (y ∷ left) ([] ∷ runs) cut = absurd (let some = cut.each.0.some in omega (arith, some))
only_cut limit gap (y ∷ left) ((x ∷ rest) ∷ runs) cut =
    let e = cut.whole in
    let same : x ≡ y = cc in
    let tail : left ≡ rest ++ flat_map (λ run. run) runs = cc in
    only_runs limit gap left (x ∷ []) rest runs tail (omega arith) cut.each.0 cut.each.1 cut.each.2 ∙ ap (λ z. cut_after (exceeds limit gap) (z ∷ []) left) same
