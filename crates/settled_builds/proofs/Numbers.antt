-- What holds of the numbers of a tree.
use Rattle.std.proofs.Common.{ℕ, refl, inl, inr}
use Rattle.plain_tree.specs.At.{numbers_of, numbers_in}
use Rattle.plain_tree.specs.PlainNode.{PlainNode, node, PlainNodes, no_nodes, more_nodes}
use Rattle.build_form.specs.Laws.{NumbersAre, AllNumbersAre}
use Rattle.work_sets.proofs.Found.{IsIn, in_left, in_right}

module _ (P Q : ℕ → Type 0) (step : (k : ℕ) → P k → Q k) where
  mutual
    pub all_so : (n : PlainNode) → NumbersAre P n → NumbersAre Q n
    all_so (node number w fs s i ns) h = (step number h.0, all_are_so ns h.1)

    pub all_are_so : (ns : PlainNodes) → AllNumbersAre P ns → AllNumbersAre Q ns
    all_are_so no_nodes h = tt
    all_are_so (more_nodes n ns) h = (all_so n h.0, all_are_so ns h.1)

module _ (P Q R : ℕ → Type 0) (step : (k : ℕ) → P k → Q k → R k) where
  mutual
    pub both_so : (n : PlainNode) → NumbersAre P n → NumbersAre Q n → NumbersAre R n
    both_so (node number w fs s i ns) h g = (step number h.0 g.0, both_are_so ns h.1 g.1)

    pub both_are_so : (ns : PlainNodes) → AllNumbersAre P ns → AllNumbersAre Q ns → AllNumbersAre R ns
    both_are_so no_nodes h g = tt
    both_are_so (more_nodes n ns) h g = (both_so n h.0 g.0, both_are_so ns h.1 g.1)

module _ (P : ℕ → Type 0) where
  mutual
    pub of_numbers : (n : PlainNode) → ((k : ℕ) → IsIn k (numbers_of n) → P k) → NumbersAre P n
    of_numbers (node number w fs s i ns) h = (h number (inl refl), all_of_numbers ns (λ k x. h k (inr x)))

    pub all_of_numbers : (ns : PlainNodes) → ((k : ℕ) → IsIn k (numbers_in ns) → P k) → AllNumbersAre P ns
    all_of_numbers no_nodes h = tt
    all_of_numbers (more_nodes n ns) h =
        (of_numbers n (λ k x. h k (in_left k (numbers_of n) (numbers_in ns) x)), all_of_numbers ns (λ k x. h k (in_right k (numbers_of n) (numbers_in ns) x)))
