-- Numbers of trees, as a list and node by node.
use Rattle.std.proofs.Common.{◌≡◌, ℕ, List, [], ◌∷◌, ◌++◌, inl, inr, refl, sym, ap, subst, arith}
use Rattle.std.specs.List.{All}
use Rattle.std.proofs.lemmas.List.Elements.{All-nil, All-cons, All-tail, All-append}
use Rattle.layout_form.specs.Laws.{Lays, LaysSome}
use Rattle.plain_tree.proofs.Numbers.{left_nothing, left_both, left_past}
use Rattle.plain_tree.specs.At.{numbers_of, numbers_in}
use Rattle.plain_tree.specs.Laid.{Laid, laid, Laids, no_laids, more_laids}
use Rattle.plain_tree.specs.Laws.{render_numbers_of, render_numbers_in, laid_numbers_of, laid_numbers_in, IsLeftOf}
use Rattle.plain_tree.specs.PlainNode.{PlainNode, node, PlainNodes, no_nodes, more_nodes}
use Rattle.plain_tree.specs.Render.{Render, render, Renders, no_renders, more_renders}
use Rattle.build_form.specs.Laws.{NumbersAre, AllNumbersAre, HasNumber, SomeHasNumber}
use Rattle.frame_session.proofs.LikeLemmas.{IsLike, AreLike}

-- ---- this holds of each number

module _ (P : ℕ → Type 0) where
  mutual
    pub listed : (n : PlainNode) → NumbersAre P n → All P (numbers_of n)
    listed (node number w fs s i ns) h = All-cons P number (numbers_in ns) h.0 (all_listed ns h.1)

    all_listed : (ns : PlainNodes) → AllNumbersAre P ns → All P (numbers_in ns)
    all_listed no_nodes h = All-nil P
    all_listed (more_nodes n ns) h = All-append P (numbers_of n) (numbers_in ns) (listed n h.0) (all_listed ns h.1)

  front : (xs ys : List ℕ) → All P (xs ++ ys) → All P xs
  front [] ys h = All-nil P
  front (x ∷ xs) ys h = All-cons P x xs (h 0 x (omega arith)) (front xs ys (All-tail P x (xs ++ ys) h))

  rest : (xs ys : List ℕ) → All P (xs ++ ys) → All P ys
  rest [] ys h = h
  rest (x ∷ xs) ys h = rest xs ys (All-tail P x (xs ++ ys) h)

  -- of one that is there
  mutual
    pub of_one : (k : ℕ) (n : PlainNode) → HasNumber k n → All P (numbers_of n) → P k
    of_one k (node number w fs s i ns) (inl e) h = subst P (sym e) (h 0 number (omega arith))
    of_one k (node number w fs s i ns) (inr there) h = of_some k ns there (All-tail P number (numbers_in ns) h)

    of_some : (k : ℕ) (ns : PlainNodes) → SomeHasNumber k ns → All P (numbers_in ns) → P k
    of_some k no_nodes there h = absurd there
    of_some k (more_nodes n ns) (inl there) h = of_one k n there (front (numbers_of n) (numbers_in ns) h)
    of_some k (more_nodes n ns) (inr there) h = of_some k ns there (rest (numbers_of n) (numbers_in ns) h)

  -- of what is left of a list
  pub of_left : (xs ys : List ℕ) → IsLeftOf xs ys → All P ys → All P xs
  of_left xs [] left h = subst (All P) (sym left) (All-nil P)
  of_left xs (y ∷ ys) (inl out) h = of_left xs ys out (All-tail P y ys h)
  of_left xs (y ∷ ys) (inr kept) h = subst (All P) (sym kept.1) (All-cons P y kept.0 (h 0 y (omega arith)) (of_left kept.0 ys kept.2 (All-tail P y ys h)))

module _ (P Q : ℕ → Type 0) (f : (k : ℕ) → P k → Q k) where
  mutual
    pub numbers_more : (n : PlainNode) → NumbersAre P n → NumbersAre Q n
    numbers_more (node number w fs s i ns) h = (f number h.0, all_numbers_more ns h.1)

    all_numbers_more : (ns : PlainNodes) → AllNumbersAre P ns → AllNumbersAre Q ns
    all_numbers_more no_nodes h = tt
    all_numbers_more (more_nodes n ns) h = (numbers_more n h.0, all_numbers_more ns h.1)

-- ---- trees that differ in fields and offsets alone have the same numbers

mutual
  pub like_numbers : (a b : PlainNode) → IsLike a b → numbers_of b ≡ numbers_of a
  like_numbers (node n w f s i ns) (node m v g t j ms) h = λ at. h.0 at ∷ like_numbers_in ns ms h.3 at

  like_numbers_in : (ns ms : PlainNodes) → AreLike ns ms → numbers_in ms ≡ numbers_in ns
  like_numbers_in no_nodes no_nodes h = refl
  like_numbers_in (more_nodes n ns) (more_nodes m ms) h = λ at. like_numbers n m h.0 at ++ like_numbers_in ns ms h.1 at
  like_numbers_in no_nodes (more_nodes m ms) h = absurd h
  like_numbers_in (more_nodes n ns) no_nodes h = absurd h

-- ---- a laid tree has some of the numbers of its render node

left_of : (xs ys zs : List ℕ) → IsLeftOf xs ys → IsLeftOf ys zs → IsLeftOf xs zs
left_of xs [] zs h k = subst (λ l. IsLeftOf l zs) (sym h) (left_nothing zs)
left_of xs (y ∷ ys) [] h k = cc
left_of xs (y ∷ ys) (z ∷ zs) h (inl out) = inl (left_of xs (y ∷ ys) zs h out)
left_of xs (y ∷ ys) (z ∷ zs) (inl out) (inr kept) =
    let same : ys ≡ kept.0 = cc in inl (left_of xs ys zs out (subst (λ l. IsLeftOf l zs) (sym same) kept.2))
left_of xs (y ∷ ys) (z ∷ zs) (inr more) (inr kept) =
    let same : ys ≡ kept.0 = cc in
    let first : y ≡ z = cc in
    inr (more.0, subst (λ x. xs ≡ x ∷ more.0) first more.1, left_of more.0 ys zs more.2 (subst (λ l. IsLeftOf l zs) (sym same) kept.2))

pub left_through : (xs ys zs : List ℕ) → IsLeftOf xs ys → IsLeftOf ys zs → IsLeftOf xs zs
left_through xs ys zs h k = left_of xs ys zs h k

mutual
  pub lays_left : (r : Render) (l : Laid) → Lays r l → IsLeftOf (laid_numbers_of l) (render_numbers_of r)
  lays_left (render number look d scroll count rs) (laid n k facts ls) h = inr (laid_numbers_in ls, ap (λ x. x ∷ laid_numbers_in ls) h.0, some_left rs ls h.3)

  some_left : (rs : Renders) (ls : Laids) → LaysSome rs ls → IsLeftOf (laid_numbers_in ls) (render_numbers_in rs)
  some_left no_renders no_laids h = refl
  some_left no_renders (more_laids at l ls) h = absurd h
  some_left (more_renders r rs) no_laids h = left_nothing (render_numbers_of r ++ render_numbers_in rs)
  some_left (more_renders r rs) (more_laids at l ls) (inl h) =
      left_both (laid_numbers_of l) (render_numbers_of r) (laid_numbers_in ls) (render_numbers_in rs) (lays_left r l h.0) (some_left rs ls h.1)
  some_left (more_renders r rs) (more_laids at l ls) (inr h) =
      left_past (laid_numbers_of l ++ laid_numbers_in ls) (render_numbers_of r) (render_numbers_in rs) (some_left rs (more_laids at l ls) h)
