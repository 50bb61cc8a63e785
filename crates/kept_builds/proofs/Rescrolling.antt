-- A tree whose offsets are other ones.
use Rattle.std.proofs.Common.{◌≡◌, ℕ, ◌+◌, ◌<◌, ◌≤◌, eqb, Bool, true, false, cond, Option, Some, None, ◌∷◌, ◌++◌, refl, sym, ap, ◌∙◌, inl, inr, arith}
use Rattle.std.specs.Option.{option_or}
use Rattle.std.proofs.lemmas.Bool.{eq-eqb, ne_eqb}
use borrow.Author.Tests.{eqb-true}
use Rattle.node_tree.specs.Forest.{Forest}
use Rattle.node_tree.specs.Forest.Forest.{none, tree}
use Rattle.plain_tree.specs.At.{node_at, node_in, numbers_of, numbers_in, is_there, changed_at, changed_in, having_scroll}
use Rattle.plain_tree.specs.Laws.{AllDiffer}
use Rattle.plain_tree.specs.Offsets.{scrolled_by, all_scrolled_by}
use Rattle.plain_tree.specs.PlainNode.{PlainNode, node, PlainNodes, no_nodes, more_nodes, nodes_of as listed}
use Rattle.plain_tree.proofs.Numbers.{IsIn, in_left, in_right, differs, apart, differ_left, differ_right}
use Rattle.build_form.specs.Laws.{NumbersAre, AllNumbersAre}
use Rattle.element_tree.specs.Element.{Element}
use Rattle.element_tree.specs.Nodes.{nodes_of}
use Rattle.kept_builds.specs.Offsets.{offset_of}

-- two trees differ in their offsets alone
abbrev mutual
  pub IsRescrolled : PlainNode → PlainNode → Type 0
  IsRescrolled (node n w f s i ns) (node m v g t j ms) = (m ≡ n) × (v ≡ w) × (g ≡ f) × (j ≡ i) × AreRescrolled ns ms

  pub AreRescrolled : PlainNodes → PlainNodes → Type 0
  AreRescrolled no_nodes no_nodes = Unit {0}
  AreRescrolled no_nodes (more_nodes m ms) = ⊥
  AreRescrolled (more_nodes n ns) no_nodes = ⊥
  AreRescrolled (more_nodes n ns) (more_nodes m ms) = IsRescrolled n m × AreRescrolled ns ms

mutual
  itself : (n : PlainNode) → IsRescrolled n n
  itself (node n w f s i ns) = (refl, refl, refl, refl, themselves ns)

  themselves : (ns : PlainNodes) → AreRescrolled ns ns
  themselves no_nodes = tt
  themselves (more_nodes n ns) = (itself n, themselves ns)

-- ---- a line, and a layout

by_number : (b : Bool) (n k m : PlainNode) → IsRescrolled n k → IsRescrolled n m → IsRescrolled n (cond b k m)
by_number true n k m h g = h
by_number false n k m h g = g

by_place : (b : Bool) (ns ks ms : PlainNodes) → AreRescrolled ns ks → AreRescrolled ns ms → AreRescrolled ns (cond b ks ms)
by_place true ns ks ms h g = h
by_place false ns ks ms h g = g

at_one : (scroll : ℕ) (n : PlainNode) → IsRescrolled n (having_scroll scroll n)
at_one scroll (node n w f s i ns) = (refl, refl, refl, refl, themselves ns)

mutual
  pub line_rescrolls : (scroll wanted : ℕ) (n : PlainNode) → IsRescrolled n (changed_at (having_scroll scroll) wanted n)
  line_rescrolls scroll wanted (node n w f s i ns) =
      by_number (eqb n wanted) (node n w f s i ns) (having_scroll scroll (node n w f s i ns)) (node n w f s i (changed_in (having_scroll scroll) wanted ns)) (at_one scroll (node n w f s i ns))
      (refl, refl, refl, refl, lines_rescroll scroll wanted ns)

  lines_rescroll : (scroll wanted : ℕ) (ns : PlainNodes) → AreRescrolled ns (changed_in (having_scroll scroll) wanted ns)
  lines_rescroll scroll wanted no_nodes = tt
  lines_rescroll scroll wanted (more_nodes n ns) =
      by_place (is_there wanted n) (more_nodes n ns) (more_nodes (changed_at (having_scroll scroll) wanted n) ns) (more_nodes n (changed_in (having_scroll scroll) wanted ns))
      (line_rescrolls scroll wanted n, themselves ns) (itself n, lines_rescroll scroll wanted ns)

mutual
  pub layout_rescrolls : (offset : ℕ → Option ℕ) (n : PlainNode) → IsRescrolled n (scrolled_by offset n)
  layout_rescrolls offset (node n w f s i ns) = (refl, refl, refl, refl, layouts_rescroll offset ns)

  layouts_rescroll : (offset : ℕ → Option ℕ) (ns : PlainNodes) → AreRescrolled ns (all_scrolled_by offset ns)
  layouts_rescroll offset no_nodes = tt
  layouts_rescroll offset (more_nodes n ns) = (layout_rescrolls offset n, layouts_rescroll offset ns)

-- ---- the elements stand for it

-- this tells the offset of each node by its number
abbrev mutual
  pub Tells : (ℕ → ℕ) → PlainNode → Type 0
  Tells now (node n w f s i ns) = (now n ≡ s) × AllTell now ns

  pub AllTell : (ℕ → ℕ) → PlainNodes → Type 0
  AllTell now no_nodes = Unit {0}
  AllTell now (more_nodes n ns) = Tells now n × AllTell now ns

pub forest_rescrolled : (scrolled now : ℕ → ℕ) (f : Forest Element) (ms : PlainNodes) → AreRescrolled (listed (nodes_of scrolled f)) ms → AllTell now ms → listed (nodes_of now f) ≡ ms
forest_rescrolled scrolled now none no_nodes h tells = refl
forest_rescrolled scrolled now none (more_nodes m ms) h tells = absurd h
forest_rescrolled scrolled now (tree k e kids rest) no_nodes h tells = absurd h
forest_rescrolled scrolled now (tree k e kids rest) (more_nodes (node m v g t j ks) ms) h tells =
    let offset : now e.number ≡ t = ap now (sym h.0.0) ∙ tells.0.0 in
    let below = forest_rescrolled scrolled now kids ks h.0.4 tells.0.1 in
    let later = forest_rescrolled scrolled now rest ms h.1 tells.1 in
    λ i. more_nodes (node (sym h.0.0 i) (sym h.0.1 i) (sym h.0.2 i) (offset i) (sym h.0.3 i) (below i)) (later i)

-- ---- each node is found by its number

at_test : (b : Bool) (n : PlainNode) (o : Option PlainNode) (m : PlainNode) (G : Type 0) → (b ≡ true → m ≡ n → G) → (o ≡ Some m → G) → cond b (Some n) o ≡ Some m → G
at_test true n o m G f g e = f refl cc
at_test false n o m G f g e = g e

at_first : (o rest : Option PlainNode) (m : PlainNode) (G : Type 0) → (o ≡ Some m → G) → (rest ≡ Some m → G) → option_or o rest ≡ Some m → G
at_first (Some x) rest m G f g e = f e
at_first None rest m G f g e = g e

-- a node that is found has its number in the tree
mutual
  found_of : (k : ℕ) (n m : PlainNode) → node_at k n ≡ Some m → IsIn k (numbers_of n)
  found_of k (node number w f s i ns) m e =
      at_test (eqb number k) (node number w f s i ns) (node_in k ns) m (IsIn k (number ∷ numbers_in ns))
      (λ is same. inl (sym (eqb-true number k is))) (λ below. inr (found_in k ns m below)) e

  found_in : (k : ℕ) (ns : PlainNodes) (m : PlainNode) → node_in k ns ≡ Some m → IsIn k (numbers_in ns)
  found_in k no_nodes m e = cc
  found_in k (more_nodes n ns) m e =
      at_first (node_at k n) (node_in k ns) m (IsIn k (numbers_of n ++ numbers_in ns))
      (λ here. in_left k (numbers_of n) (numbers_in ns) (found_of k n m here)) (λ later. in_right k (numbers_of n) (numbers_in ns) (found_in k ns m later)) e

module _ (top : PlainNode) where
  -- what is found below is what is found in the tree
  abbrev Agree : (ℕ → Option PlainNode) → Type 0
  Agree find = (k : ℕ) (m : PlainNode) → find k ≡ Some m → node_at k top ≡ Some m

  abbrev now : ℕ → ℕ
  now k = offset_of (node_at k top)

  at_own : (number : ℕ) (n : PlainNode) (o : Option PlainNode) → cond (eqb number number) (Some n) o ≡ Some n
  at_own number n o = ap (λ b. cond b (Some n) o) (eq-eqb number number refl)

  at_other : (number k : ℕ) (n : PlainNode) (o : Option PlainNode) → (number ≡ k → ⊥) → cond (eqb number k) (Some n) o ≡ o
  at_other number k n o not = ap (λ b. cond b (Some n) o) (ne_eqb number k not)

  missed : (k : ℕ) (n : PlainNode) (o rest : Option PlainNode) → node_at k n ≡ o → (IsIn k (numbers_of n) → ⊥) → option_or o rest ≡ rest
  missed k n None rest e not = refl
  missed k n (Some m) rest e not = absurd (not (found_of k n m e))

  mutual
    told : (n : PlainNode) → AllDiffer (numbers_of n) → Agree (λ k. node_at k n) → Tells now n
    told (node number w f s i ns) d agree =
        let n = node number w f s i ns in (
          ap offset_of (agree number n (at_own number n (node_in number ns))),
          all_told ns d.1 (λ k m e. agree k m (at_other number k n (node_in k ns) (differs number k (numbers_in ns) d.0 (found_in k ns m e)) ∙ e)),
        )

    all_told : (ns : PlainNodes) → AllDiffer (numbers_in ns) → Agree (λ k. node_in k ns) → AllTell now ns
    all_told no_nodes d agree = tt
    all_told (more_nodes n ns) d agree = (
      told n (differ_left (numbers_of n) (numbers_in ns) d) (λ k m e. agree k m (ap (λ o. option_or o (node_in k ns)) e)),
      all_told ns (differ_right (numbers_of n) (numbers_in ns) d)
          (λ k m e. agree k m (missed k n (node_at k n) (node_in k ns) refl (λ h. apart k (numbers_of n) (numbers_in ns) d h (found_in k ns m e)) ∙ e)),
    )

  pub top_told : AllDiffer (numbers_of top) → Tells (λ k. offset_of (node_at k top)) top
  top_told differ = told top differ (λ k m e. e)

-- ---- no number from the next free one on is there

neither : (x y : Option PlainNode) → x ≡ None → y ≡ None → option_or x y ≡ None
neither None y e d = d
neither (Some n) y e d = absurd (cc)

mutual
  pub none_above : (next k : ℕ) (n : PlainNode) → next ≤ k → NumbersAre (λ number. number < next) n → node_at k n ≡ None
  none_above next k (node number w f s i ns) high low =
      ap (λ b. cond b (Some (node number w f s i ns)) (node_in k ns)) (ne_eqb number k (λ e. absurd (let is = low.0 in omega (arith, high, is, e)))) ∙ none_above_in next k ns high low.1

  none_above_in : (next k : ℕ) (ns : PlainNodes) → next ≤ k → AllNumbersAre (λ number. number < next) ns → node_in k ns ≡ None
  none_above_in next k no_nodes high low = refl
  none_above_in next k (more_nodes n ns) high low = neither (node_at k n) (node_in k ns) (none_above next k n high low.0) (none_above_in next k ns high low.1)
