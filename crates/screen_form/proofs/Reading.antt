-- What the order has, and that it rises.
use Rattle.std.proofs.Common.{◌≡◌, ◌≢◌, ℕ, List, [], ◌∷◌, ◌++◌, inl, inr, map, refl, sym, ap, ◌∙◌, subst}
use Rattle.std.specs.Prelude.{IsPermutation}
use Rattle.std.specs.List.{AllByRecursion}
use Rattle.std.specs.List.Sorted.{IsStrictlySortedBy}
use Rattle.std.specs.Ordering.{match_ordering, ordering_reverse, ordering_then, int_cmp, nat_cmp}
use Rattle.std.specs.declared.cmp.Ordering.{Ordering}
use Rattle.std.specs.declared.cmp.Ordering.TheVariants.{Less, Equal, Greater}
use Rattle.std.specs.Cmp.{IsTotalOrder}
use Rattle.std.specs.FinMap.{nat_cmp-IsAntisymmetric}
use Rattle.std.specs.BTreeSet.{insert_key}
use Rattle.std.proofs.lemmas.Cmp.{then_total, on_total, nat_cmp_total, int_cmp_total}
use Rattle.std.proofs.lemmas.List.{append-nil, map-append}
use Rattle.std.proofs.lemmas.List.Sorted.{IsPermutation-refl, IsPermutation-sym, IsPermutation-cons, IsPermutation-trans, IsPermutation-middle, IsPermutation-append_left, IsPermutation-map}
use Rattle.fx_geom.specs.declared.shapes.Offset.{Offset}
use Rattle.fx_geom.specs.Offset.{offset_sum, origin}
use Rattle.plain_tree.specs.Laid.{Laid, laid, Laids, no_laids, more_laids}
use Rattle.plain_tree.specs.Laws.{laid_numbers_of, laid_numbers_in, IsLeftOf, DiffersFrom, AllDiffer}
use Rattle.screen_form.specs.declared.spot.Spot.{Spot}
use Rattle.screen_form.specs.declared.focus_role.FocusRole.{FocusRole}
use Rattle.screen_form.specs.declared.focus_role.FocusRole.TheVariants.{Hides, TakesFocus, Passes}
use Rattle.screen_form.specs.Spot.{spot_cmp}
use Rattle.screen_form.specs.FocusRole.{focus_role}
use Rattle.screen_form.specs.FocusOrder.{spot_at, spots_by, spots_of, spots_in, put_in, number_of, focus_order_of}
use Rattle.plain_tree.proofs.Numbers.{left_nothing, left_both, all_left}

spot_total : IsTotalOrder spot_cmp
spot_total =
    then_total (on_total (λ (s : Spot). s.y) int_cmp_total)
    (then_total (on_total (λ (s : Spot). s.x) int_cmp_total) (on_total (λ (s : Spot). s.number) nat_cmp_total))

-- ---- the spots rise

all_weaker : (P Q : Spot → Type 0) → ((s : Spot) → P s → Q s) → (ps : List Spot) → AllByRecursion P ps → AllByRecursion Q ps
all_weaker P Q f [] h = tt
all_weaker P Q f (s ∷ ps) h = (f s h.0, all_weaker P Q f ps h.1)

all_by : (o : Ordering) (P : Spot → Type 0) (s x : Spot) (xs rest : List Spot) → AllByRecursion P (x ∷ xs) → P s → AllByRecursion P rest
    → AllByRecursion P (match_ordering o (s ∷ x ∷ xs) (x ∷ xs) (x ∷ rest))
all_by Less P s x xs rest h own k = (own, h)
all_by Equal P s x xs rest h own k = h
all_by Greater P s x xs rest h own k = (h.0, k)

all_put : (P : Spot → Type 0) (s : Spot) (ps : List Spot) → AllByRecursion P ps → P s → AllByRecursion P (insert_key spot_cmp ps s)
all_put P s [] h own = (own, tt)
all_put P s (x ∷ xs) h own = all_by (spot_cmp s x) P s x xs (insert_key spot_cmp xs s) h own (all_put P s xs h.1 own)

rises_by : (o : Ordering) (s x : Spot) (xs rest : List Spot) → spot_cmp s x ≡ o → IsStrictlySortedBy spot_cmp (x ∷ xs)
    → (spot_cmp x s ≡ Less → AllByRecursion (λ y. spot_cmp x y ≡ Less) rest) → IsStrictlySortedBy spot_cmp rest
    → IsStrictlySortedBy spot_cmp (match_ordering o (s ∷ x ∷ xs) (x ∷ xs) (x ∷ rest))
unfolding IsStrictlySortedBy
rises_by Less s x xs rest is h above k =
    ((is, all_weaker (λ y. spot_cmp x y ≡ Less) (λ y. spot_cmp s y ≡ Less) (λ y less. spot_total.trans s x y is less) xs h.0), h)
rises_by Equal s x xs rest is h above k = h
rises_by Greater s x xs rest is h above k = (above (spot_total.antisymm x s ∙ ap ordering_reverse is), k)

rises : (s : Spot) (ps : List Spot) → IsStrictlySortedBy spot_cmp ps → IsStrictlySortedBy spot_cmp (insert_key spot_cmp ps s)
unfolding IsStrictlySortedBy
rises s [] h = (tt, tt)
rises s (x ∷ xs) h =
    rises_by (spot_cmp s x) s x xs (insert_key spot_cmp xs s) refl h (λ less. all_put (λ y. spot_cmp x y ≡ Less) s xs h.0 less) (rises s xs h.1)

all_rise : (placed ss : List Spot) → IsStrictlySortedBy spot_cmp placed → IsStrictlySortedBy spot_cmp (put_in placed ss)
unfolding IsStrictlySortedBy
all_rise placed [] h = h
all_rise placed (s ∷ ss) h = all_rise (insert_key spot_cmp placed s) ss (rises s placed h)

pub rises_law : (root : Laid) → IsStrictlySortedBy spot_cmp (put_in [] (spots_of root origin))
unfolding IsStrictlySortedBy
rises_law root = all_rise [] (spots_of root origin) tt

-- ---- spots of other numbers are put beside each other

then_equal : (a b : Ordering) → ordering_then a b ≡ Equal → b ≡ Equal
then_equal Less b e = cc
then_equal Equal b e = e
then_equal Greater b e = cc

same_number : (s x : Spot) → spot_cmp s x ≡ Equal → s.number ≡ x.number
same_number s x e =
    nat_cmp-IsAntisymmetric s.number x.number
    (then_equal (int_cmp s.x x.x) (nat_cmp s.number x.number) (then_equal (int_cmp s.y x.y) (ordering_then (int_cmp s.x x.x) (nat_cmp s.number x.number)) e))

beside_by : (o : Ordering) (s x : Spot) (xs rest : List Spot) → spot_cmp s x ≡ o → s.number ≢ x.number → IsPermutation (s ∷ xs) rest
    → IsPermutation (s ∷ x ∷ xs) (match_ordering o (s ∷ x ∷ xs) (x ∷ xs) (x ∷ rest))
beside_by Less s x xs rest is apart h = IsPermutation-refl (s ∷ x ∷ xs)
beside_by Equal s x xs rest is apart h = absurd (apart (same_number s x is))
beside_by Greater s x xs rest is apart h =
    IsPermutation-trans (s ∷ x ∷ xs) (x ∷ s ∷ xs) (x ∷ rest) (IsPermutation-sym (x ∷ s ∷ xs) (s ∷ x ∷ xs) (IsPermutation-middle (x ∷ []) s xs))
    (IsPermutation-cons x (s ∷ xs) rest h)

beside : (s : Spot) (ps : List Spot) → DiffersFrom s.number (map number_of ps) → IsPermutation (s ∷ ps) (insert_key spot_cmp ps s)
beside s [] d = IsPermutation-refl (s ∷ [])
beside s (x ∷ xs) d = beside_by (spot_cmp s x) s x xs (insert_key spot_cmp xs s) refl d.0 (beside s xs d.1)

apart_by : (o : Ordering) (n : ℕ) (s x : Spot) (xs rest : List Spot) → DiffersFrom n (map number_of (x ∷ xs)) → n ≢ s.number → DiffersFrom n (map number_of rest)
    → DiffersFrom n (map number_of (match_ordering o (s ∷ x ∷ xs) (x ∷ xs) (x ∷ rest)))
apart_by Less n s x xs rest d own k = (own, d)
apart_by Equal n s x xs rest d own k = d
apart_by Greater n s x xs rest d own k = (d.0, k)

apart_put : (n : ℕ) (s : Spot) (ps : List Spot) → DiffersFrom n (map number_of ps) → n ≢ s.number → DiffersFrom n (map number_of (insert_key spot_cmp ps s))
apart_put n s [] d own = (own, tt)
apart_put n s (x ∷ xs) d own = apart_by (spot_cmp s x) n s x xs (insert_key spot_cmp xs s) d own (apart_put n s xs d.1 own)

differ_by : (o : Ordering) (s x : Spot) (xs rest : List Spot) → AllDiffer (map number_of (x ∷ xs)) → DiffersFrom s.number (map number_of (x ∷ xs))
    → DiffersFrom x.number (map number_of rest) → AllDiffer (map number_of rest) → AllDiffer (map number_of (match_ordering o (s ∷ x ∷ xs) (x ∷ xs) (x ∷ rest)))
differ_by Less s x xs rest h own apart k = (own, h)
differ_by Equal s x xs rest h own apart k = h
differ_by Greater s x xs rest h own apart k = (apart, k)

differ_put : (s : Spot) (ps : List Spot) → AllDiffer (map number_of ps) → DiffersFrom s.number (map number_of ps) → AllDiffer (map number_of (insert_key spot_cmp ps s))
differ_put s [] h own = (tt, tt)
differ_put s (x ∷ xs) h own =
    differ_by (spot_cmp s x) s x xs (insert_key spot_cmp xs s) h own (apart_put x.number s xs h.0 (λ e. own.0 (sym e))) (differ_put s xs h.1 own.1)

-- spots have other numbers than those that are placed
abbrev AreNew : List Spot → List Spot → Type 0
AreNew placed [] = Unit {0}
AreNew placed (s ∷ ss) = DiffersFrom s.number (map number_of placed) × AreNew placed ss

still_new : (s : Spot) (placed ts : List Spot) → AreNew placed ts → DiffersFrom s.number (map number_of ts) → AreNew (insert_key spot_cmp placed s) ts
still_new s placed [] h d = tt
still_new s placed (t ∷ ts) h d = (apart_put t.number s placed h.0 (λ e. d.0 (sym e)), still_new s placed ts h.1 d.1)

new_to_none : (ss : List Spot) → AreNew [] ss
new_to_none [] = tt
new_to_none (s ∷ ss) = (tt, new_to_none ss)

all_beside : (placed ss : List Spot) → AllDiffer (map number_of ss) → AreNew placed ss → IsPermutation (placed ++ ss) (put_in placed ss)
all_beside placed [] d h = subst (λ l. IsPermutation l placed) (sym (append-nil placed)) (IsPermutation-refl placed)
all_beside placed (s ∷ ss) d h =
    let one = insert_key spot_cmp placed s in
    IsPermutation-trans (placed ++ s ∷ ss) (s ∷ (placed ++ ss)) (put_in one ss) (IsPermutation-middle placed s ss)
    (IsPermutation-trans (s ∷ (placed ++ ss)) (one ++ ss) (put_in one ss) (IsPermutation-append_left ss (s ∷ placed) one (beside s placed h.0))
    (all_beside one ss d.1 (still_new s placed ss h.1 d.0)))

all_differ : (placed ss : List Spot) → AllDiffer (map number_of placed) → AllDiffer (map number_of ss) → AreNew placed ss → AllDiffer (map number_of (put_in placed ss))
all_differ placed [] p d h = p
all_differ placed (s ∷ ss) p d h = all_differ (insert_key spot_cmp placed s) ss (differ_put s placed p h.0) d.1 (still_new s placed ss h.1 d.0)

-- ---- the spots' numbers are some of the laid tree's

left_by : (role : FocusRole) (own : Spot) (below : List Spot) (ns : List ℕ) → IsLeftOf (map number_of below) ns
    → IsLeftOf (map number_of (spots_by role own below)) (own.number ∷ ns)
left_by Hides own below ns h = inl (left_nothing ns)
left_by TakesFocus own below ns h = inr (map number_of below, refl, h)
left_by Passes own below ns h = inl h

mutual
  unfolding spots_of

  left_of : (l : Laid) (at : Offset) → IsLeftOf (map number_of (spots_of l at)) (laid_numbers_of l)
  left_of (laid number look f cs) at =
      left_by (focus_role look f.frame) (spot_at number at) (spots_in cs at) (laid_numbers_in cs) (left_in cs at)

  left_in : (ls : Laids) (at : Offset) → IsLeftOf (map number_of (spots_in ls at)) (laid_numbers_in ls)
  left_in no_laids at = refl
  left_in (more_laids by l ls) at =
      let here = spots_of l (offset_sum at by) in
      let rest = spots_in ls at in
      subst (λ ns. IsLeftOf ns (laid_numbers_of l ++ laid_numbers_in ls)) (sym (map-append number_of here rest))
      (left_both (map number_of here) (laid_numbers_of l) (map number_of rest) (laid_numbers_in ls) (left_of l (offset_sum at by)) (left_in ls at))

numbers_differ : (root : Laid) → AllDiffer (laid_numbers_of root) → AllDiffer (map number_of (spots_of root origin))
numbers_differ root h = all_left (map number_of (spots_of root origin)) (laid_numbers_of root) (left_of root origin) h

pub each_law : (root : Laid) → AllDiffer (laid_numbers_of root) → IsPermutation (map number_of (spots_of root origin)) (focus_order_of root)
each_law root h =
    let ss = spots_of root origin in
    IsPermutation-map number_of ss (put_in [] ss) (all_beside [] ss (numbers_differ root h) (new_to_none ss))

pub once_law : (root : Laid) → AllDiffer (laid_numbers_of root) → AllDiffer (focus_order_of root)
once_law root h = let ss = spots_of root origin in all_differ [] ss tt (numbers_differ root h) (new_to_none ss)
