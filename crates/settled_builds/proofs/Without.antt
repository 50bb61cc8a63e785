-- Marks without a number.
use Rattle.std.proofs.Common.{◌≡◌, ℕ, ◌==◌, Bool, true, false, not, ◌||◌, cond, List, [], ◌∷◌, refl, sym, ap, ◌∙◌}
use Rattle.std.specs.List.{list_any}
use Rattle.std.proofs.lemmas.Bool.{eqb-true, ne_eqb}
use Rattle.fx_expr.specs.declared.values.Value.{Value}
use Rattle.plain_tree.specs.PlainNode.{PlainNode, node, PlainNodes, no_nodes, more_nodes}
use Rattle.build_form.specs.Entering.{Blueprint, values_below}
use Rattle.build_form.specs.Laws.{NumbersAre, AllNumbersAre}
use Rattle.build_walk.specs.Fresh.{HasFreshOutputs, HaveFreshOutputs}
use Rattle.build_walk.specs.Past.{is_marked}
use Rattle.settled_builds.specs.Settled.{AreComponents, AllAreComponents}
use Rattle.settled_builds.specs.Steps.{without}
use Rattle.settled_builds.proofs.Once.{Other}

abbrev one_of : ℕ → List ℕ → Bool
one_of k marks = list_any (λ n. n == k) marks

either_more : (a b c : Bool) → (b ≡ true → c ≡ true) → (a || b) ≡ true → (a || c) ≡ true
either_more true b c h e = refl
either_more false b c h e = h e

later_one : (a b : Bool) → b ≡ true → (a || b) ≡ true
later_one true b e = refl
later_one false b e = e

module _ (wanted : ℕ) where
  -- one mark of a list, which goes or stays
  gone_here : (x : ℕ) (ys : List ℕ) (b : Bool) → (x == wanted) ≡ b → one_of wanted ys ≡ false → one_of wanted (cond (not b) (x ∷ ys) ys) ≡ false
  gone_here x ys true is rest = rest
  gone_here x ys false is rest = ap (λ (b : Bool). b || one_of wanted ys) is ∙ rest

  pub unmarked_there : (marks : List ℕ) → is_marked (without wanted marks) wanted ≡ false
  unmarked_there [] = refl
  unmarked_there (x ∷ xs) = gone_here x (without wanted xs) (x == wanted) refl (unmarked_there xs)

  same_here : (k x : ℕ) (xs ys : List ℕ) → Other wanted k → (b : Bool) → (x == wanted) ≡ b → one_of k ys ≡ one_of k xs → one_of k (cond (not b) (x ∷ ys) ys) ≡ ((x == k) || one_of k xs)
  same_here k x xs ys other true is rest =
      let apart : (x == k) ≡ false = ne_eqb x k (λ e. other (sym e ∙ eqb-true x wanted is)) in rest ∙ ap (λ (b : Bool). b || one_of k xs) (sym apart)
  same_here k x xs ys other false is rest = ap (λ (b : Bool). (x == k) || b) rest

  pub others_stay : (k : ℕ) → Other wanted k → (marks : List ℕ) → is_marked (without wanted marks) k ≡ is_marked marks k
  others_stay k other [] = refl
  others_stay k other (x ∷ xs) = same_here k x xs (without wanted xs) other (x == wanted) refl (others_stay k other xs)

  were_here : (k x : ℕ) (xs ys : List ℕ) → (one_of k ys ≡ true → one_of k xs ≡ true) → (b : Bool) → one_of k (cond (not b) (x ∷ ys) ys) ≡ true → ((x == k) || one_of k xs) ≡ true
  were_here k x xs ys step true h = later_one (x == k) (one_of k xs) (step h)
  were_here k x xs ys step false h = either_more (x == k) (one_of k ys) (one_of k xs) step h

  pub were_marked : (k : ℕ) (marks : List ℕ) → is_marked (without wanted marks) k ≡ true → is_marked marks k ≡ true
  were_marked k [] e = e
  were_marked k (x ∷ xs) e = were_here k x xs (without wanted xs) (λ h. were_marked k xs h) (x == wanted) e

  -- where less is marked but that number
  module _ (b : Blueprint) (marks left : List ℕ) (less : (k : ℕ) → Other wanted k → is_marked left k ≡ false → is_marked marks k ≡ false) where
    mutual
      pub fresh_less : (values : List Value) (n : PlainNode) → NumbersAre (Other wanted) n → HasFreshOutputs b marks values n → HasFreshOutputs b left values n
      fresh_less values (node number w fs s i ns) other fresh = (λ e. fresh.0 (less number other.0 e), all_fresh_less (values_below w values) ns other.1 fresh.1)

      pub all_fresh_less : (values : List Value) (ns : PlainNodes) → AllNumbersAre (Other wanted) ns → HaveFreshOutputs b marks values ns → HaveFreshOutputs b left values ns
      all_fresh_less values no_nodes other fresh = tt
      all_fresh_less values (more_nodes n ns) other fresh = (fresh_less values n other.0 fresh.0, all_fresh_less values ns other.1 fresh.1)

  module _ (marks : List ℕ) where
    mutual
      pub components_without : (n : PlainNode) → AreComponents marks n → AreComponents (without wanted marks) n
      components_without (node number w fs s i ns) h = (λ e. h.0 (were_marked number marks e), all_components_without ns h.1)

      pub all_components_without : (ns : PlainNodes) → AllAreComponents marks ns → AllAreComponents (without wanted marks) ns
      all_components_without no_nodes h = tt
      all_components_without (more_nodes n ns) h = (components_without n h.0, all_components_without ns h.1)
