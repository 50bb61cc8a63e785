-- Who can have the focus stands in the order, and in the tree.
use Rattle.std.proofs.Common.{◌≡◌, ℕ, zero, suc, ◌-◌, ◌==◌, Bool, true, false, ◌⊎◌, inl, inr, Option, Some, None, IfSome, List, [], ◌∷◌, length, map, slice_get, refl, sym, ap, subst, ◌∙◌, if◌then◌else◌}
use Rattle.std.specs.Prelude.{Contains, IsPermutation}
use Rattle.std.specs.Option.{option_or}
use Rattle.std.proofs.lemmas.List.Elements.{Contains-append_left, Contains-append_right}
use Rattle.std.proofs.lemmas.List.Sorted.{Contains-permutation, IsPermutation-sym}
use Rattle.fx_geom.specs.Offset.{origin}
use Rattle.layout_form.specs.Object.{stood_in}
use Rattle.plain_tree.specs.At.{numbers_of}
use Rattle.plain_tree.specs.Laid.{Laid, laid, Laids, no_laids, more_laids, Stood, list_of}
use Rattle.plain_tree.specs.Laws.{laid_numbers_of, laid_numbers_in, IsLeftOf}
use Rattle.plain_tree.specs.PlainNode.{PlainNode}
use Rattle.screen_form.specs.FocusOrder.{spots_of, number_of, focus_order_of}
use Rattle.screen_form.specs.FocusSteps.{first_of, last_of, after, before, next_of, prev_of}
use Rattle.screen_form.specs.declared.spot.Spot.{Spot}
use Rattle.session_form.specs.State.{Shown}
use Rattle.session_laws.specs.Focus.{IsWay, end_of, laid_number, CanTakeFocus, CanTakeFocusIn, IsThere}
use Rattle.session_laws.specs.Numbers.{ShowsSome}
use Rattle.session_laws.proofs.WayLemmas.{first_in, cons_cases, later_in, none_in, way_of, spot_of}

-- ---- the next and the one before are in the order

got_in : (xs : List ℕ) (i y : ℕ) → slice_get xs i ≡ Some y → Contains xs y
got_in [] i y e = cc
got_in (x ∷ xs) zero y e = let same : x ≡ y = cc in subst (Contains (x ∷ xs)) same (first_in x xs)
got_in (x ∷ xs) (suc i) y e = later_in x xs y (got_in xs i y e)

after_by : (own : Bool) (n : ℕ) (ns : List ℕ) (x y : ℕ) → (if own then first_of ns else after ns x) ≡ Some y → (after ns x ≡ Some y → Contains ns y) → Contains (n ∷ ns) y
after_by true n ns x y e h = later_in n ns y (got_in ns 0 y e)
after_by false n ns x y e h = later_in n ns y (h e)

after_in : (order : List ℕ) (x y : ℕ) → after order x ≡ Some y → Contains order y
after_in [] x y e = cc
after_in (n ∷ ns) x y e = after_by (n == x) n ns x y e (after_in ns x y)

before_by : (own : Bool) (earlier : Option ℕ) (n : ℕ) (ns : List ℕ) (x y : ℕ) → (if own then earlier else before (Some n) ns x) ≡ Some y
    → (before (Some n) ns x ≡ Some y → (Some n ≡ Some y) ⊎ Contains ns y) → (earlier ≡ Some y) ⊎ Contains (n ∷ ns) y
before_by true earlier n ns x y e h = inl e
before_by false earlier n ns x y e h =
    elim (h e) [ inl own ↦ (let same : n ≡ y = cc in inr (subst (Contains (n ∷ ns)) same (first_in n ns))) | inr there ↦ inr (later_in n ns y there) ]

before_in : (earlier : Option ℕ) (order : List ℕ) (x y : ℕ) → before earlier order x ≡ Some y → (earlier ≡ Some y) ⊎ Contains order y
before_in earlier [] x y e = cc
before_in earlier (n ∷ ns) x y e = before_by (n == x) earlier n ns x y e (before_in (Some n) ns x y)

before_none : (order : List ℕ) (x y : ℕ) → before None order x ≡ Some y → Contains order y
before_none order x y e = elim (before_in None order x y e) [ inl none ↦ cc | inr there ↦ there ]

either_in : (o p : Option ℕ) (order : List ℕ) → ((y : ℕ) → o ≡ Some y → Contains order y) → ((y : ℕ) → p ≡ Some y → Contains order y) → IfSome (option_or o p) (Contains order)
either_in None None order h k = tt
either_in None (Some y) order h k = k y refl
either_in (Some x) p order h k = h x refl

pub next_in : (order : List ℕ) (focus : Option ℕ) → IfSome (next_of order focus) (Contains order)
next_in order None = either_in None (first_of order) order (λ y e. cc) (got_in order 0)
next_in order (Some x) = either_in (after order x) (first_of order) order (after_in order x) (got_in order 0)

pub prev_in : (order : List ℕ) (focus : Option ℕ) → IfSome (prev_of order focus) (Contains order)
prev_in order None = either_in None (last_of order) order (λ y e. cc) (got_in order (length order - 1))
prev_in order (Some x) = either_in (before None order x) (last_of order) order (before_none order x) (got_in order (length order - 1))

-- ---- the order has those that can have the focus

numbered_in : (ss : List Spot) (n : ℕ) → Contains (map number_of ss) n → (s : Spot) × (s.number ≡ n) × Contains ss s
numbered_in [] n h = absurd (none_in n h)
numbered_in (s ∷ ss) n h =
    elim (cons_cases (number_of s) (map number_of ss) n h) [
      | inl here ↦ (s, here, first_in s ss)
      | inr later ↦ (let more = numbered_in ss n later in (more.0, more.1, later_in s ss more.0 more.2))
    ]

in_numbers : (ss : List Spot) (s : Spot) → Contains ss s → Contains (map number_of ss) s.number
in_numbers [] s h = absurd (none_in s h)
in_numbers (t ∷ ss) s h =
    elim (cons_cases t ss s h) [
      | inl here ↦ subst (Contains (number_of t ∷ map number_of ss)) (ap number_of here) (first_in (number_of t) (map number_of ss))
      | inr later ↦ later_in (number_of t) (map number_of ss) s.number (in_numbers ss s later)
    ]

pub takes_of : (root : Laid) (n : ℕ) → IsPermutation (map number_of (spots_of root origin)) (focus_order_of root) → Contains (focus_order_of root) n → CanTakeFocus root n
takes_of root n same h =
    let one = numbered_in (spots_of root origin) n (Contains-permutation (focus_order_of root) (map number_of (spots_of root origin)) n (IsPermutation-sym (map number_of (spots_of root origin)) (focus_order_of root) same) h) in
    (one.0, one.1, way_of root origin one.0 one.2)

pub of_takes : (root : Laid) (n : ℕ) → IsPermutation (map number_of (spots_of root origin)) (focus_order_of root) → CanTakeFocus root n → Contains (focus_order_of root) n
of_takes root n same h =
    Contains-permutation (map number_of (spots_of root origin)) (focus_order_of root) n same
    (subst (Contains (map number_of (spots_of root origin))) h.1 (in_numbers (spots_of root origin) h.0 (spot_of root origin h.0 h.2)))

-- ---- they stand in the tree

child_in : (ls : Laids) (c : Stood) (n : ℕ) → Contains (list_of ls) c → Contains (laid_numbers_of c.child) n → Contains (laid_numbers_in ls) n
child_in no_laids c n there h = absurd (none_in c there)
child_in (more_laids at l ls) c n there h =
    elim (cons_cases (record { at = at; child = l }) (list_of ls) c there) [
      | inl here ↦
          let P : Stood → Type 0 = λ x. Contains (laid_numbers_of x.child) n in
          Contains-append_left (laid_numbers_of l) (laid_numbers_in ls) n (subst P (sym here) h)
      | inr later ↦ Contains-append_right (laid_numbers_of l) (laid_numbers_in ls) n (child_in ls c n later h)
    ]

own_in : (l : Laid) → Contains (laid_numbers_of l) (laid_number l)
own_in (laid number look facts ls) = first_in number (laid_numbers_in ls)

below_in : (l : Laid) (c : Stood) (n : ℕ) → Contains (stood_in l) c → Contains (laid_numbers_of c.child) n → Contains (laid_numbers_of l) n
below_in (laid number look facts ls) c n there h = later_in number (laid_numbers_in ls) n (child_in ls c n there h)

end_in : (way : List Stood) (l : Laid) → IsWay l way → Contains (laid_numbers_of l) (laid_number (end_of l way))
end_in [] l leads = own_in l
end_in (c ∷ cs) l leads = below_in l c (laid_number (end_of c.child cs)) leads.0 (end_in cs c.child leads.1)

left_in : (xs ys : List ℕ) (n : ℕ) → IsLeftOf xs ys → Contains xs n → Contains ys n
left_in xs [] n left h = absurd (none_in n (subst (λ l. Contains l n) left h))
left_in xs (y ∷ ys) n (inl out) h = later_in y ys n (left_in xs ys n out h)
left_in xs (y ∷ ys) n (inr kept) h =
    elim (cons_cases y kept.0 n (subst (λ l. Contains l n) kept.1 h)) [
      | inl here ↦ subst (Contains (y ∷ ys)) here (first_in y ys)
      | inr later ↦ later_in y ys n (left_in kept.0 ys n kept.2 later)
    ]

pub takes_there : (tree : Option PlainNode) (shown : Option Shown) (n : ℕ) → ShowsSome tree shown → CanTakeFocusIn shown n → IsThere tree n
takes_there tree None n shows h = absurd h
takes_there None (Some l) n shows h = absurd shows
takes_there (Some t) (Some l) n shows h =
    left_in (laid_numbers_of l.laid) (numbers_of t) n shows
    (subst (Contains (laid_numbers_of l.laid)) (h.2.number ∙ h.1) (end_in h.2.way l.laid h.2.leads))
