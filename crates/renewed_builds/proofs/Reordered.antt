-- Children of elements that come into their orders, one change after another.
use Rattle.std.proofs.Common.{◌≡◌, ◌≢◌, ℕ, zero, suc, ◌+◌, ◌<◌, ◌≤◌, Bool, true, false, cond, Option, Some, None, is_some, IfSome, option_map, List, [], ◌∷◌, ◌++◌, length, map, take, get_or, refl, sym, ap, ◌∙◌, subst, arith, inl, inr}
use Rattle.std.specs.List.{All}
use Rattle.std.proofs.lemmas.Bool.{cases_Bool}
use Rattle.std.proofs.lemmas.List.{take_more}
use Rattle.fx_handles.specs.declared.Handle.{Handle}
use Rattle.fx_handles.specs.Handle.{same, times, AreDistinct}
use Rattle.fx_handles.specs.HandleLaws.{same_self, same-true, same-eq, same-ne, same-false, cases_same, times-cons, times_here, times_there}
use Rattle.node_tree.specs.Edits.{KeepsValues, CanReorder, Reorders, ReordersAll, and_order}
use Rattle.node_tree.specs.Forest.{TreeNode, with_order_if}
use Rattle.node_tree.specs.Tree.{Tree, IsNode, node_at, children_of, children_at}
use Rattle.element_tree.specs.Element.{Element, number_at}
use Rattle.global_keys.specs.Holders.{Registry}
use Rattle.global_keys.specs.Named.{NamesExactly}
use Rattle.renewed_builds.specs.Renewing.{Change}
use Rattle.renewed_builds.specs.Taking.{order_after, handles_at, CanOrder, orders_by, OrdersAll}
use Rattle.renewed_builds.proofs.Seen.{order_append, elements_of, often, often_append, often_times}

-- ---- no element twice

unordered : (cs : List Change) (k : Handle) → times k (elements_of cs) ≡ 0 → (o : Option (List ℕ)) → order_after cs k o ≡ o
unordered [] k absent o = refl
unordered (c ∷ cs) k absent o =
    elim (cases_same c.element k) [
      | inl e ↦ absurd (
          let twice : times k (c.element ∷ elements_of cs) ≡ times k (k ∷ elements_of cs) = ap (λ x. times k (x ∷ elements_of cs)) e in
          omega (arith, absent, twice, times_here k (elements_of cs)))
      | inr apart ↦
          let other : same k c.element ≡ false = same-ne k c.element (λ is. apart (sym is)) in
          ap (λ b. order_after cs k (cond b c.order o)) other ∙ unordered cs k (omega (arith, absent, times_there k c.element (elements_of cs) apart)) o
    ]

fewer : (i : ℕ) (k : Handle) (cs : List Change) → times k (elements_of (take i cs)) ≤ times k (elements_of cs)
fewer zero k cs = omega arith
fewer (suc i) k [] = omega arith
fewer (suc i) k (c ∷ cs) = omega (arith, times-cons k c.element (elements_of (take i cs)), times-cons k c.element (elements_of cs), fewer i k cs)

times_both : (k : Handle) (xs ys : List Change) → times k (elements_of (xs ++ ys)) ≡ times k (elements_of ys) + times k (elements_of xs)
times_both k xs ys = omega (arith, often_times k (xs ++ ys) 0, often_append k xs ys 0, often_times k xs 0, often_times k ys (often k xs 0))

-- the element of a change has no order before it
pub once : (cs : List Change) (i : ℕ) (c : Change) → AreDistinct (elements_of cs) → i < length cs → take (i + 1) cs ≡ take i cs ++ c ∷ [] → order_after (take i cs) c.element None ≡ None
once cs i c distinct low is =
    let k = c.element in
    let few = fewer (i + 1) k cs in
    let both = ap (λ xs. times k (elements_of xs)) is ∙ times_both k (take i cs) (c ∷ []) in
    unordered (take i cs) k (omega (arith, few, both, distinct k, times_here k [])) None

-- ---- one after another

module _ (a b : Tree Element) (orders : Handle → Option (List Handle)) (so_far : ReordersAll a.nodes b.nodes orders) where
  same_children : (k : Handle) → orders k ≡ None → children_at b k ≡ children_at a k
  same_children k quiet = by_node (node_at a k) (so_far.nodes k ∙ ap (λ o. option_map (with_order_if o) (node_at a k)) quiet)
    where
      by_node : (o : Option (TreeNode Element)) → node_at b k ≡ option_map (with_order_if None) o → children_of (node_at b k) ≡ children_of o
      by_node None is = ap children_of is
      by_node (Some n) is = ap children_of is

  still_live : (k : Handle) → IsNode a k → IsNode b k
  still_live k live = by_node (node_at a k) refl
    where
      by_node : (o : Option (TreeNode Element)) → node_at a k ≡ o → IsNode b k
      by_node None is = absurd (let none : is_some (node_at a k) ≡ false = ap is_some is in cc)
      by_node (Some n) is = ap is_some (so_far.nodes k ∙ ap (option_map (with_order_if (orders k))) is)

same_orders : (a b : Tree Element) (p q : Handle → Option (List Handle)) → ((k : Handle) → p k ≡ q k) → ReordersAll a.nodes b.nodes p → ReordersAll a.nodes b.nodes q
same_orders a b p q is r = record { nodes = λ k. r.nodes k ∙ ap (λ o. option_map (with_order_if o) (node_at a k)) (is k); handles = r.handles }

pub orders_none : (t : Tree Element) → ReordersAll t.nodes t.nodes (λ k. None) → OrdersAll [] t t
orders_none t begin = record {
  orders = begin;
  root = refl;
  inactive = refl;
  numbers = λ k. refl;
  names = λ r named. named;
}

module _ (xs : List Change) (c : Change) (a b : Tree Element) (so_far : OrdersAll xs a b) (quiet : order_after xs c.element None ≡ None) where
  quiet_hands : orders_by xs a c.element ≡ None
  quiet_hands = ap (option_map (handles_at (children_at a c.element))) quiet

  pub same_below : children_at b c.element ≡ children_at a c.element
  same_below = same_children a b (orders_by xs a) so_far.orders c.element quiet_hands

  pub can_still : (places : List ℕ) → c.order ≡ Some places → CanOrder a c → All (λ i. i < length (children_at b c.element)) places × CanReorder b c.element (handles_at (children_at b c.element) places)
  can_still places is can =
      let can_a : IfSome (Some places) (λ js. All (λ i. i < length (children_at a c.element)) js × CanReorder a c.element (handles_at (children_at a c.element) js)) =
      subst (λ o. IfSome o (λ js. All (λ i. i < length (children_at a c.element)) js × CanReorder a c.element (handles_at (children_at a c.element) js))) is can in
      subst (λ ks. All (λ i. i < length ks) places × CanReorder b c.element (handles_at ks places)) (sym same_below)
      (can_a.0, record { live = still_live a b (orders_by xs a) so_far.orders c.element can_a.1.live; kept = λ k. can_a.1.kept k ∙ sym (ap (times k) same_below) })

  -- it has no order
  by_none : (k : Handle) (s : Bool) → same k c.element ≡ s → order_after xs k None ≡ cond s None (order_after xs k None)
  by_none k true is = ap (λ x. order_after xs x None) (same-true k c.element is) ∙ quiet
  by_none k false is = refl

  pub orders_same : c.order ≡ None → OrdersAll (xs ++ c ∷ []) a b
  orders_same is = record {
    orders = same_orders a b (orders_by xs a) (orders_by (xs ++ c ∷ []) a)
        (λ k. ap (option_map (handles_at (children_at a k)))
        (by_none k (same k c.element) refl ∙ sym (ap (λ o. cond (same k c.element) o (order_after xs k None)) is) ∙ sym (order_append xs (c ∷ []) k None)))
        so_far.orders;
    root = so_far.root;
    inactive = so_far.inactive;
    numbers = so_far.numbers;
    names = so_far.names;
  }

  -- it has one
  module _ (places : List ℕ) (is : c.order ≡ Some places) (hs : List Handle) (hands : hs ≡ handles_at (children_at b c.element) places) (u : Tree Element) where
    by_some : (k : Handle) (s : Bool) → same k c.element ≡ s → cond s (Some hs) (orders_by xs a k) ≡ option_map (handles_at (children_at a k)) (cond s (Some places) (order_after xs k None))
    by_some k true here = ap (λ l. Some l) (hands ∙ ap (λ ks. handles_at ks places) (same_below ∙ ap (children_at a) (sym (same-true k c.element here))))
    by_some k false here = refl

    pub orders_more : (more : ReordersAll a.nodes b.nodes (orders_by xs a) → Reorders b.nodes u.nodes c.element hs → ReordersAll a.nodes u.nodes (and_order c.element hs (orders_by xs a)))
        → Reorders b.nodes u.nodes c.element hs → u.root ≡ b.root → u.inactive ≡ b.inactive → ((k : Handle) → number_at u k ≡ number_at b k) → ((r : Registry) → NamesExactly r b → NamesExactly r u)
        → OrdersAll (xs ++ c ∷ []) a u
    orders_more more reorders root inactive numbers names = record {
      orders = same_orders a u (and_order c.element hs (orders_by xs a)) (orders_by (xs ++ c ∷ []) a)
          (λ k. by_some k (same k c.element) refl ∙ ap (option_map (handles_at (children_at a k))) (sym (ap (λ o. cond (same k c.element) o (order_after xs k None)) is) ∙ sym (order_append xs (c ∷ []) k None)))
          (more so_far.orders reorders);
      root = root ∙ so_far.root;
      inactive = inactive ∙ so_far.inactive;
      numbers = λ k. numbers k ∙ so_far.numbers k;
      names = λ r named. names r (so_far.names r named);
    }
