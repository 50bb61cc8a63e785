-- Children of runs don't overlap: each ends left of each later one of its run, and above those of later runs.
use Rattle.std.proofs.Common.{◌≡◌, ℕ, ◌+◌, ◌^◌, ◌<◌, ◌≤◌, inl, inr, arith, suc, ℤ, pos, ◌≤ℤ◌, ◌+ℤ◌, List, [], ◌∷◌, ◌++◌, length, map, All, AllPairs, ap, subst, sym, refl}
use Rattle.std.specs.List.{flat_map}
use Rattle.std.proofs.lemmas.Int.{ints}
use Rattle.std.proofs.lemmas.List.Elements.{All-nil, All-cons}
use Rattle.std.proofs.lemmas.List.Kept.{AllPairs-cons}
use Rattle.fx_geom.specs.declared.shapes.Offset.{Offset}
use Rattle.fx_geom.specs.declared.shapes.Rect.{Rect}
use Rattle.fx_geom.specs.declared.shapes.Size.{Size}
use Rattle.fx_geom.specs.Len.{stopped}
use Rattle.wrap_table.specs.Stretches.{greatest_of, spaced_extent, starts_from}
use Rattle.wrap_table.specs.Places.{Run, offset_at, places_from, run_of, box_at, boxes_of, IsBefore}
use Rattle.wrap_table.proofs.WrapLemmas.{heights}

-- each of some boxes is before all later ones
abbrev pub IsBeforeAll : Rect → List Rect → Type 0
IsBeforeAll a [] = Unit {0}
IsBeforeAll a (b ∷ bs) = IsBefore a b × IsBeforeAll a bs

abbrev pub AreInOrder : List Rect → Type 0
AreInOrder [] = Unit {0}
AreInOrder (b ∷ bs) = IsBeforeAll b bs × AreInOrder bs

all_before : (a : Rect) (bs : List Rect) → IsBeforeAll a bs → All (IsBefore a) bs
all_before a [] h = All-nil (IsBefore a)
all_before a (b ∷ bs) h = All-cons (IsBefore a) b bs h.0 (all_before a bs h.1)

pub all_pairs : (bs : List Rect) → AreInOrder bs → AllPairs IsBefore bs
all_pairs [] h = λ i j d less there. absurd (omega arith)
all_pairs (b ∷ bs) h = AllPairs-cons IsBefore b bs (all_before b bs h.0) (all_pairs bs h.1)

-- boxes that begin here or further right; that begin here or further down; that end here or further up
abbrev BeginAt : ℕ → List Rect → Type 0
BeginAt n [] = Unit {0}
BeginAt n (b ∷ bs) = (pos n ≤ℤ b.at.x) × BeginAt n bs

abbrev AreBelow : ℕ → List Rect → Type 0
AreBelow n [] = Unit {0}
AreBelow n (b ∷ bs) = (pos n ≤ℤ b.at.y) × AreBelow n bs

abbrev EndAbove : ℕ → List Rect → Type 0
EndAbove n [] = Unit {0}
EndAbove n (b ∷ bs) = ((b.at.y +ℤ pos b.size.h) ≤ℤ pos n) × EndAbove n bs

weaker : (m n : ℕ) (z : ℤ) → m ≤ n → pos n ≤ℤ z → pos m ≤ℤ z
weaker m n z h g = omega (arith, ints)

stronger : (m n : ℕ) (z : ℤ) → m ≤ n → z ≤ℤ pos m → z ≤ℤ pos n
stronger m n z h g = omega (arith, ints)

begin_sooner : (m n : ℕ) (bs : List Rect) → m ≤ n → BeginAt n bs → BeginAt m bs
begin_sooner m n [] h g = tt
begin_sooner m n (b ∷ bs) h g = (weaker m n b.at.x h g.0, begin_sooner m n bs h g.1)

below_more : (m n : ℕ) (bs : List Rect) → m ≤ n → AreBelow n bs → AreBelow m bs
below_more m n [] h g = tt
below_more m n (b ∷ bs) h g = (weaker m n b.at.y h g.0, below_more m n bs h g.1)

end_later : (m n : ℕ) (bs : List Rect) → m ≤ n → EndAbove m bs → EndAbove n bs
end_later m n [] h g = tt
end_later m n (b ∷ bs) h g = (stronger m n (b.at.y +ℤ pos b.size.h) h g.0, end_later m n bs h g.1)

left_of : (x w m : ℕ) (z : ℤ) → x + w ≤ m → pos m ≤ℤ z → (pos x +ℤ pos w) ≤ℤ z
left_of x w m z h g = omega (arith, ints)

left_of_all : (a : Rect) (x m : ℕ) (bs : List Rect) → a.at.x ≡ pos x → x + a.size.w ≤ m → BeginAt m bs → IsBeforeAll a bs
left_of_all a x m [] e h g = tt
left_of_all a x m (b ∷ bs) e h g = (inl (subst (λ y. (y +ℤ pos a.size.w) ≤ℤ b.at.x) (sym e) (left_of x a.size.w m b.at.x h g.0)), left_of_all a x m bs e h g.1)

above : (y z : ℤ) (n : ℕ) → y ≤ℤ pos n → pos n ≤ℤ z → y ≤ℤ z
above y z n h g = omega (arith, ints)

above_all : (a : Rect) (n : ℕ) (bs : List Rect) → (a.at.y +ℤ pos a.size.h) ≤ℤ pos n → AreBelow n bs → IsBeforeAll a bs
above_all a n [] h g = tt
above_all a n (b ∷ bs) h g = (inr (above (a.at.y +ℤ pos a.size.h) b.at.y n h g.0), above_all a n bs h g.1)

-- ---- boxes in a row after boxes in another

before_both : (a : Rect) (bs cs : List Rect) → IsBeforeAll a bs → IsBeforeAll a cs → IsBeforeAll a (bs ++ cs)
before_both a [] cs h g = g
before_both a (b ∷ bs) cs h g = (h.0, before_both a bs cs h.1 g)

in_order_both : (n : ℕ) (bs cs : List Rect) → AreInOrder bs → AreInOrder cs → EndAbove n bs → AreBelow n cs → AreInOrder (bs ++ cs)
in_order_both n [] cs h g e b = g
in_order_both n (a ∷ bs) cs h g e b = (before_both a bs cs h.0 (above_all a n cs e.0 b), in_order_both n bs cs h.1 g e.1 b)

below_both : (n : ℕ) (bs cs : List Rect) → AreBelow n bs → AreBelow n cs → AreBelow n (bs ++ cs)
below_both n [] cs h g = g
below_both n (b ∷ bs) cs h g = (h.0, below_both n bs cs h.1 g)

boxes_of-append : (os ps : List Offset) (ss ts : List Size) → length os ≡ length ss → boxes_of (os ++ ps) (ss ++ ts) ≡ boxes_of os ss ++ boxes_of ps ts
boxes_of-append [] ps [] ts e = refl
boxes_of-append [] ps (s ∷ ss) ts e = absurd (omega arith)
boxes_of-append (o ∷ os) ps [] ts e = absurd (omega arith)
boxes_of-append (o ∷ os) ps (s ∷ ss) ts e = ap (λ bs. box_at o s ∷ bs) (boxes_of-append os ps ss ts (omega arith))

-- ---- one run

-- each child is at most as wide as the room that it has
abbrev pub FitIn : List ℕ → List Size → Type 0
FitIn [] [] = Unit {0}
FitIn [] (child ∷ run) = ⊥
FitIn (room ∷ rooms) [] = ⊥
FitIn (room ∷ rooms) (child ∷ run) = (child.w ≤ room) × FitIn rooms run

-- where the boxes of a run stand
abbrev run_boxes : ℕ → ℕ → ℕ → List ℕ → List Size → List Rect
run_boxes gap top from rooms run = boxes_of (map (offset_at top) (starts_from gap from rooms)) run

run_begins : (gap top from : ℕ) (rooms : List ℕ) (run : List Size) → BeginAt (stopped from) (run_boxes gap top from rooms run)
run_begins gap top from [] run = tt
run_begins gap top from (room ∷ rooms) [] = tt
run_begins gap top from (room ∷ rooms) (child ∷ run) =
    (omega (arith, ints), begin_sooner (stopped from) (stopped (from + room + gap)) _ (omega arith) (run_begins gap top (from + room + gap) rooms run))

run_below : (gap top from : ℕ) (rooms : List ℕ) (run : List Size) → AreBelow (stopped top) (run_boxes gap top from rooms run)
run_below gap top from [] run = tt
run_below gap top from (room ∷ rooms) [] = tt
run_below gap top from (room ∷ rooms) (child ∷ run) = (omega (arith, ints), run_below gap top (from + room + gap) rooms run)

ends_by : (t h n : ℕ) → t + h ≤ n → (pos t +ℤ pos h) ≤ℤ pos n
ends_by t h n less = omega (arith, ints)

run_ends : (gap top from : ℕ) (rooms : List ℕ) (run : List Size) → EndAbove (stopped top + greatest_of (heights run)) (run_boxes gap top from rooms run)
run_ends gap top from [] run = tt
run_ends gap top from (room ∷ rooms) [] = tt
run_ends gap top from (room ∷ rooms) (child ∷ run) =
    (ends_by (stopped top) child.h _ (omega arith), end_later (stopped top + greatest_of (heights run)) (stopped top + greatest_of (heights (child ∷ run))) _ (omega arith) (run_ends gap top (from + room + gap) rooms run))

run_in_order : (gap top from : ℕ) (rooms : List ℕ) (run : List Size) → FitIn rooms run → from + spaced_extent gap rooms < 2 ^ 40 → AreInOrder (run_boxes gap top from rooms run)
run_in_order gap top from [] run fit less = tt
run_in_order gap top from (room ∷ rooms) [] fit less = tt
run_in_order gap top from (room ∷ []) (child ∷ []) fit less = (tt, tt)
run_in_order gap top from (room ∷ []) (child ∷ next ∷ run) fit less = (tt, tt)
run_in_order gap top from (room ∷ more ∷ rooms) (child ∷ run) fit less =
    let narrow = fit.0 in (
      left_of_all (box_at (offset_at top (stopped from)) child) (stopped from) (stopped (from + room + gap)) (run_boxes gap top (from + room + gap) (more ∷ rooms) run) refl
          (omega (arith, narrow)) (run_begins gap top (from + room + gap) (more ∷ rooms) run),
      run_in_order gap top (from + room + gap) (more ∷ rooms) run fit.1 (omega arith),
    )

run_length : (gap top from : ℕ) (rooms : List ℕ) (run : List Size) → FitIn rooms run → length (map (offset_at top) (starts_from gap from rooms)) ≡ length run
run_length gap top from [] [] fit = refl
run_length gap top from [] (child ∷ run) fit = absurd fit
run_length gap top from (room ∷ rooms) [] fit = absurd fit
run_length gap top from (room ∷ rooms) (child ∷ run) fit = ap suc (run_length gap top (from + room + gap) rooms run fit.1)

-- ---- all runs

abbrev pub run_in : ℕ → (List Size → List ℕ) → List Size → Run
run_in gap rooms run = run_of (starts_from gap 0 (rooms run)) (heights run)

-- in each run the children fit in their rooms, and the sums of these don't stop
abbrev pub AllFit : ℕ → (List Size → List ℕ) → List (List Size) → Type 0
AllFit gap rooms [] = Unit {0}
AllFit gap rooms (run ∷ runs) = FitIn (rooms run) run × (spaced_extent gap (rooms run) < 2 ^ 40) × AllFit gap rooms runs

abbrev all_boxes : ℕ → ℕ → (List Size → List ℕ) → ℕ → List (List Size) → List Rect
all_boxes gap run_gap rooms top runs = boxes_of (places_from run_gap top (map (run_in gap rooms) runs)) (flat_map (λ run. run) runs)

all_boxes-first : (gap run_gap : ℕ) (rooms : List Size → List ℕ) (top : ℕ) (run : List Size) (runs : List (List Size)) → FitIn (rooms run) run
    → all_boxes gap run_gap rooms top (run ∷ runs) ≡ run_boxes gap top 0 (rooms run) run ++ all_boxes gap run_gap rooms (top + greatest_of (heights run) + run_gap) runs
all_boxes-first gap run_gap rooms top run runs fit = boxes_of-append _ _ run (flat_map (λ run. run) runs) (run_length gap top 0 (rooms run) run fit)

all_below : (gap run_gap : ℕ) (rooms : List Size → List ℕ) (top : ℕ) (runs : List (List Size)) → AllFit gap rooms runs → AreBelow (stopped top) (all_boxes gap run_gap rooms top runs)
all_below gap run_gap rooms top [] fit = tt
all_below gap run_gap rooms top (run ∷ runs) fit =
    subst (AreBelow (stopped top)) (sym (all_boxes-first gap run_gap rooms top run runs fit.0))
    (below_both (stopped top) _ _ (run_below gap top 0 (rooms run) run)
    (below_more (stopped top) (stopped (top + greatest_of (heights run) + run_gap)) _ (omega arith) (all_below gap run_gap rooms (top + greatest_of (heights run) + run_gap) runs fit.2)))

abbrev pub run_heights : ℕ → (List Size → List ℕ) → List (List Size) → List ℕ
run_heights gap rooms runs = map (λ run. run.height) (map (run_in gap rooms) runs)

pub all_in_order : (gap run_gap : ℕ) (rooms : List Size → List ℕ) (top : ℕ) (runs : List (List Size)) → AllFit gap rooms runs
    → top + spaced_extent run_gap (run_heights gap rooms runs) < 2 ^ 40 → AreInOrder (all_boxes gap run_gap rooms top runs)
all_in_order gap run_gap rooms top [] fit less = tt
all_in_order gap run_gap rooms top (run ∷ []) fit less =
    subst AreInOrder (sym (all_boxes-first gap run_gap rooms top run [] fit.0))
    (in_order_both (stopped top + greatest_of (heights run)) _ [] (run_in_order gap top 0 (rooms run) run fit.0 (let narrow = fit.1 in omega (arith, narrow))) tt (run_ends gap top 0 (rooms run) run) tt)
all_in_order gap run_gap rooms top (run ∷ next ∷ runs) fit less =
    let later = top + greatest_of (heights run) + run_gap in
    let narrow = fit.1 in
    subst AreInOrder (sym (all_boxes-first gap run_gap rooms top run (next ∷ runs) fit.0))
    (in_order_both (stopped later) _ _ (run_in_order gap top 0 (rooms run) run fit.0 (omega (arith, narrow)))
    (all_in_order gap run_gap rooms later (next ∷ runs) fit.2 (omega arith))
    (end_later (stopped top + greatest_of (heights run)) (stopped later) _ (omega arith) (run_ends gap top 0 (rooms run) run))
    (all_below gap run_gap rooms later (next ∷ runs) fit.2))
