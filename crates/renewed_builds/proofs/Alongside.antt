-- What is so at a spot of one tree is so at the like spot of another one, to which some steps lead.
use Rattle.std.proofs.Common.{◌≡◌, ℕ, ◌==◌, Bool, true, false, not, ◌||◌, cond, Option, Some, None, List, [], ◌∷◌, refl, sym, ap, ◌∙◌, subst}
use Rattle.std.specs.List.{find}
use Rattle.fx_expr.specs.declared.values.Value.{Value}
use Rattle.widget_model.specs.Plain.{PlainWidget, look_of}
use Rattle.plain_tree.specs.PlainNode.{PlainNode, node, number_of, widget_of, fields_of, index_of}
use Rattle.build_form.specs.BuildRole.{build_role_of}
use Rattle.build_form.specs.Entering.{Blueprint}
use Rattle.build_form.specs.Step.{Progress}
use Rattle.build_walk.specs.Fresh.{HasOutput}
use Rattle.build_walk.specs.Past.{is_marked}
use Rattle.settled_builds.specs.Moved.{having_index, StandsAlike, AreSpotsAlike}
use Rattle.settled_builds.specs.Places.{NodePlace}
use Rattle.settled_builds.specs.Retaken.{can_retake_below}
use Rattle.settled_builds.specs.Settled.{AreItsOwn}
use Rattle.settled_builds.specs.Steps.{IsGivenAt, CanTakeAnew, without}
use Rattle.settled_builds.specs.Taken.{nodes_below}
use Rattle.renewed_builds.specs.Stale.{given_at}

-- ---- spots

index_twice : (i j : ℕ) (n : PlainNode) → having_index i (having_index j n) ≡ having_index i n
index_twice i j (node number widget fields scroll index children) = refl

own_index : (n : PlainNode) → n ≡ having_index (index_of n) n
own_index (node number widget fields scroll index children) = refl

alike_then : (p q r : NodePlace) → StandsAlike p q → StandsAlike q r → StandsAlike p r
alike_then p q r a b = record {
  node = b.node ∙ ap (having_index (index_of r.node)) a.node ∙ index_twice (index_of r.node) (index_of q.node) p.node;
  left = b.left ∙ a.left;
  values = b.values ∙ a.values;
}

pub spots_itself : (o : Option NodePlace) → AreSpotsAlike o o
spots_itself None = tt
spots_itself (Some p) = record { node = own_index p.node; left = refl; values = refl }

pub spots_then : (o u w : Option NodePlace) → AreSpotsAlike o u → AreSpotsAlike u w → AreSpotsAlike o w
spots_then None None None a b = tt
spots_then None None (Some r) a b = b
spots_then None (Some q) w a b = absurd a
spots_then (Some p) None w a b = absurd a
spots_then (Some p) (Some q) None a b = b
spots_then (Some p) (Some q) (Some r) a b = alike_then p q r a b

-- a spot of the later tree is one of the earlier one
pub record SpotBefore (o : Option NodePlace) (q : NodePlace) : Type 0 where
  pub place : NodePlace
  pub is : o ≡ Some place
  pub alike : StandsAlike place q

pub spot_before : (o : Option NodePlace) (q : NodePlace) → AreSpotsAlike o (Some q) → SpotBefore o q
spot_before None q a = absurd a
spot_before (Some p) q a = record { place = p; is = refl; alike = a }

-- ---- at them

widget_same : (i : ℕ) (n : PlainNode) → widget_of (having_index i n) ≡ widget_of n
widget_same i (node number widget fields scroll index children) = refl

number_same : (i : ℕ) (n : PlainNode) → number_of (having_index i n) ≡ number_of n
number_same i (node number widget fields scroll index children) = refl

fields_same : (i : ℕ) (n : PlainNode) → fields_of (having_index i n) ≡ fields_of n
fields_same i (node number widget fields scroll index children) = refl

can_same : (i : ℕ) (ws : List PlainWidget) (n : PlainNode) → can_retake_below ws (having_index i n) ≡ can_retake_below ws n
can_same i ws (node number widget fields scroll index children) = refl

below_same : (i : ℕ) (n : PlainNode) → nodes_below (having_index i n) ≡ nodes_below n
below_same i (node number widget fields scroll index children) = refl

module _ (p q : NodePlace) (a : StandsAlike p q) where
  pub alike_widget : widget_of q.node ≡ widget_of p.node
  alike_widget = ap widget_of a.node ∙ widget_same (index_of q.node) p.node

  pub alike_number : number_of q.node ≡ number_of p.node
  alike_number = ap number_of a.node ∙ number_same (index_of q.node) p.node

  alike_fields : fields_of q.node ≡ fields_of p.node
  alike_fields = ap fields_of a.node ∙ fields_same (index_of q.node) p.node

  pub alike_below : nodes_below q.node ≡ nodes_below p.node
  alike_below = ap nodes_below a.node ∙ below_same (index_of q.node) p.node

  module _ (b : Blueprint) (ws : List PlainWidget) where
    pub given_alike : IsGivenAt b ws p → IsGivenAt b ws q
    given_alike g = record {
      own = subst (λ (w : PlainWidget). AreItsOwn (build_role_of (look_of w)) w ws) (sym alike_widget) g.own;
      output =
          subst (λ (n : ℕ). HasOutput b (build_role_of (look_of (widget_of q.node))) (widget_of q.node) (fields_of q.node) q.values n ws) (sym alike_number)
          (subst (λ (vs : List Value). HasOutput b (build_role_of (look_of (widget_of q.node))) (widget_of q.node) (fields_of q.node) vs (number_of p.node) ws) (sym a.values)
          (subst (λ (fs : List Value). HasOutput b (build_role_of (look_of (widget_of q.node))) (widget_of q.node) fs p.values (number_of p.node) ws) (sym alike_fields)
          (subst (λ (w : PlainWidget). HasOutput b (build_role_of (look_of w)) w (fields_of p.node) p.values (number_of p.node) ws) (sym alike_widget) g.output)));
    }

    pub anew_alike : CanTakeAnew b ws p → CanTakeAnew b ws q
    anew_alike c = record { given = given_alike c.given; can = ap (can_retake_below ws) a.node ∙ can_same (index_of q.node) ws p.node ∙ c.can }

  pub body_alike : (b : Blueprint) (s : Progress) → given_at b q s ≡ given_at b p s
  body_alike b s = ap (λ (n : PlainNode). given_at b (record q { node = n }) s) a.node ∙ by_node p.node (index_of q.node) ∙ ap (λ (vs : List Value). given_at b (record p { values = vs }) s) a.values
    where
      by_node : (n : PlainNode) (i : ℕ) → given_at b (record q { node = having_index i n }) s ≡ given_at b (record q { node = n }) s
      by_node (node number widget fields scroll index children) i = refl

-- ---- marks

-- what is found passes the test
found_by : (p : ℕ → Bool) (n k : ℕ) (o : Option ℕ) (b : Bool) → p n ≡ b → (o ≡ Some k → p k ≡ true) → cond b (Some n) o ≡ Some k → p k ≡ true
found_by p n k o true is later e = subst (λ (m : ℕ). p m ≡ true) (some_is e) is
  where
    some_is : Some n ≡ Some k → n ≡ k
    some_is q = cc
found_by p n k o false is later e = later e

pub found_passes : (p : ℕ → Bool) (ns : List ℕ) (k : ℕ) → find p ns ≡ Some k → p k ≡ true
found_passes p [] k e = cc
found_passes p (n ∷ ns) k e = found_by p n k (find p ns) (p n) refl (found_passes p ns k) e

either_more : (a b c : Bool) → (b ≡ true → c ≡ true) → (a || b) ≡ true → (a || c) ≡ true
either_more true b c h e = refl
either_more false b c h e = h e

later_one : (a b : Bool) → b ≡ true → (a || b) ≡ true
later_one true b e = refl
later_one false b e = e

-- what is marked without one number was marked
module _ (wanted k : ℕ) where
  were_here : (x : ℕ) (xs ys : List ℕ) → (is_marked ys k ≡ true → is_marked xs k ≡ true) → (b : Bool) → is_marked (cond (not b) (x ∷ ys) ys) k ≡ true → is_marked (x ∷ xs) k ≡ true
  were_here x xs ys step true h = later_one (x == k) (is_marked xs k) (step h)
  were_here x xs ys step false h = either_more (x == k) (is_marked ys k) (is_marked xs k) step h

  pub were_marked : (marks : List ℕ) → is_marked (without wanted marks) k ≡ true → is_marked marks k ≡ true
  were_marked [] e = e
  were_marked (x ∷ xs) e = were_here x xs (without wanted xs) (were_marked xs) (x == wanted) e
