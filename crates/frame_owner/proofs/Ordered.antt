-- Children come into their orders, node by node; and what render nodes are once they took widgets and their children such orders.
use Rattle.std.proofs.Common.{◌≡◌, ℕ, zero, suc, ◌+◌, ◌<◌, ◌≤◌, Bool, true, false, cond, Option, Some, None, IsSome, IfSome, option_map, List, [], ◌∷◌, ◌++◌, length, map, take, get_or, refl, ap, sym, ◌∙◌, subst, inl, inr, arith}
use Rattle.std.specs.List.{All}
use Rattle.std.specs.Option.{option_to_list}
use Rattle.std.proofs.lemmas.List.{take_more, take_all}
use Rattle.fx_handles.specs.declared.Handle.{Handle}
use Rattle.fx_handles.specs.Handle.{same, times, AreDistinct}
use Rattle.fx_handles.specs.HandleLaws.{cases_same, same-eq, same-ne, times-cons, times_here}
use Rattle.node_tree.specs.Edits.{CanReorder, ReordersAll}
use Rattle.node_tree.specs.Forest.{TreeNode, Forest, with_order_if, map_values, reordered}
use Rattle.node_tree.specs.Tree.{Tree, Is, IsNode, node_at, children_of, children_at, tops_at}
use Rattle.node_tree.proofs.Children.{mapped_is}
use Rattle.node_tree.proofs.EditLemmas.{keeps_then}
use Rattle.node_tree.proofs.Reordering.{all_reordered_is, reorders_none, reorders_more}
use Rattle.render_tree.specs.Edits.{Reordered}
use Rattle.render_tree.specs.Object.{RenderObject}
use Rattle.renewed_builds.specs.Renewing.{Change}
use Rattle.renewed_builds.specs.Taking.{handles_at}
use Rattle.frame_owner.specs.Redrawing.{places_after, orders_after, order_at, forest_after, changed, CanOrder, HasTaken, HasOrdered}
use Rattle.frame_owner.proofs.Taken.{none_for, node_after, HasChanged}

-- ---- orders of lists of changes

absent_places : (cs : List Change) (k : Handle) → times k (map (λ (d : Change). d.at) cs) ≡ 0 → places_after cs k ≡ None
absent_places [] k absent = refl
absent_places (c ∷ cs) k absent =
    let parts = none_for k c cs absent in
    ap (λ (b : Bool). cond {A = Option (List ℕ)} b c.order (places_after cs k)) (same-ne k c.at (λ e. true_false (sym (same-eq c.at k (sym e)) ∙ parts.0))) ∙ absent_places cs k parts.1
  where
    true_false : true ≡ false → ⊥
    true_false e = cc

-- with one change more, for another node
more_places : (cs : List Change) (c : Change) (k : Handle) → times c.at (map (λ (d : Change). d.at) cs) ≡ 0 → places_after (cs ++ c ∷ []) k ≡ cond {A = Option (List ℕ)} (same k c.at) c.order (places_after cs k)
more_places [] c k absent = refl
more_places (d ∷ cs) c k absent =
    let parts = none_for c.at d cs absent in
    elim (cases_same k d.at) [
      | inl e ↦
          let other : same k c.at ≡ false = ap (λ (h : Handle). same h c.at) e ∙ parts.0 in
          ap (λ (b : Bool). cond {A = Option (List ℕ)} b d.order (places_after (cs ++ c ∷ []) k)) (same-eq k d.at e)
          ∙ sym (ap (λ (b : Bool). cond {A = Option (List ℕ)} b c.order (cond {A = Option (List ℕ)} (same k d.at) d.order (places_after cs k))) other
          ∙ ap (λ (b : Bool). cond {A = Option (List ℕ)} b d.order (places_after cs k)) (same-eq k d.at e))
      | inr ne ↦
          ap (λ (b : Bool). cond {A = Option (List ℕ)} b d.order (places_after (cs ++ c ∷ []) k)) (same-ne k d.at ne)
          ∙ (more_places cs c k parts.1
          ∙ sym (ap (λ (b : Bool). cond {A = Option (List ℕ)} (same k c.at) c.order (cond {A = Option (List ℕ)} b d.order (places_after cs k))) (same-ne k d.at ne)))
    ]

among_changes : (cs : List Change) (i : ℕ) (z : Change) → i < length cs → 1 ≤ times (get_or cs i z).at (map (λ (d : Change). d.at) cs)
among_changes [] i z low = absurd (omega (arith, low))
among_changes (c ∷ cs) zero z low = let here = times_here c.at (map (λ (d : Change). d.at) cs) in omega (arith, here)
among_changes (c ∷ cs) (suc i) z low =
    let there = among_changes cs i z (omega (arith, low)) in
    let parts = times-cons (get_or cs i z).at c.at (map (λ (d : Change). d.at) cs) in
    omega (arith, there, parts)

-- no change before the one at a place is for its node
alone_at : (cs : List Change) (i : ℕ) (z : Change) → AreDistinct (map (λ (d : Change). d.at) cs) → i < length cs → times (get_or cs i z).at (map (λ (d : Change). d.at) (take i cs)) ≡ 0
alone_at [] i z once low = absurd (omega (arith, low))
alone_at (c ∷ cs) zero z once low = omega arith
alone_at (c ∷ cs) (suc i) z once low =
    let x = (get_or cs i z).at in
    let later = alone_at cs i z (λ h. let few = once h in let parts = times-cons h c.at (map (λ (d : Change). d.at) cs) in omega (arith, few, parts)) (omega (arith, low)) in
    let there = among_changes cs i z (omega (arith, low)) in
    let few = once x in
    let all = times-cons x c.at (map (λ (d : Change). d.at) cs) in
    let parts = times-cons x c.at (map (λ (d : Change). d.at) (take i cs)) in
    omega (arith, later, there, few, all, parts)

-- ---- one node after another

pub none_ordered : (t : Tree RenderObject) → HasOrdered [] t t
none_ordered t = record { orders = reorders_none t; root = refl; inactive = refl }

same_node : (x : Option (TreeNode RenderObject)) → option_map (with_order_if None) x ≡ x
same_node None = refl
same_node (Some n) = refl

unmoved : (cs : List Change) (old now : Tree RenderObject) (k : Handle) → HasOrdered cs old now → times k (map (λ (d : Change). d.at) cs) ≡ 0 → node_at now k ≡ node_at old k
unmoved cs old now k so_far absent =
    so_far.orders.nodes k
    ∙ (ap (λ (o : Option (List ℕ)). option_map (with_order_if (option_map (handles_at (children_at old k)) o)) (node_at old k)) (absent_places cs k absent) ∙ same_node (node_at old k))

-- such children are there, and may stand in such an order
abbrev MayStand : Handle → List ℕ → Option (TreeNode RenderObject) → Type 0
MayStand k places x = All (λ i. i < length (children_of x)) places × IsSome x × ((h : Handle) → times h (handles_at (children_of x) places) ≡ times h (children_of x))

may_stand : (t : Tree RenderObject) (k : Handle) (places : List ℕ) → All (λ i. i < length (children_at t k)) places × CanReorder t k (handles_at (children_at t k) places) → MayStand k places (node_at t k)
may_stand t k places can = (can.0, can.1.live, can.1.kept)

stands_then : (a b : Tree RenderObject) (k : Handle) (places : List ℕ) → node_at b k ≡ node_at a k → All (λ i. i < length (children_at a k)) places × CanReorder a k (handles_at (children_at a k) places)
    → All (λ i. i < length (children_at b k)) places × CanReorder b k (handles_at (children_at b k) places)
stands_then a b k places is can =
    let then = subst (MayStand k places) (sym is) (may_stand a k places can) in
    (then.0, record { live = then.1; kept = then.2 })

some_given : (o : Option (List ℕ)) (P : List ℕ → Type 0) (places : List ℕ) → o ≡ Some places → IfSome o P → P places
some_given None P places is p = absurd (none_some is)
  where
    none_some : None ≡ Some places → ⊥
    none_some e = cc
some_given (Some qs) P places is p = subst P (same_some is) p
  where
    same_some : Some qs ≡ Some places → qs ≡ places
    same_some e = cc

module _ (cs : List Change) (i : ℕ) (c : Change) (old a : Tree RenderObject) (once : AreDistinct (map (λ (d : Change). d.at) cs)) (low : i < length cs) (is : c ≡ get_or cs i c) (so_far : HasOrdered (take i cs) old a) where
  alone : times c.at (map (λ (d : Change). d.at) (take i cs)) ≡ 0
  alone = ap (λ (d : Change). times d.at (map (λ (x : Change). x.at) (take i cs))) is ∙ alone_at cs i c once low

  still_there : node_at a c.at ≡ node_at old c.at
  still_there = unmoved (take i cs) old a c.at so_far alone

  next : take (i + 1) cs ≡ take i cs ++ c ∷ []
  next = take_more cs i c low ∙ ap (λ (d : Change). take i cs ++ d ∷ []) (sym is)

  -- its children may stand in its order still
  pub can_now : All (CanOrder old) cs → (places : List ℕ) → c.order ≡ Some places → All (λ j. j < length (children_at a c.at)) places × CanReorder a c.at (handles_at (children_at a c.at) places)
  can_now all places given =
      let here : CanOrder old c = subst (CanOrder old) (sym is) (all i c low) in
      stands_then old a c.at places still_there
      (some_given c.order (λ (qs : List ℕ). All (λ j. j < length (children_at old c.at)) qs × CanReorder old c.at (handles_at (children_at old c.at) qs)) places given here)

  -- where it has none nothing changes
  pub none_more : c.order ≡ None → HasOrdered (take (i + 1) cs) old a
  none_more given =
      subst (λ (ds : List Change). HasOrdered ds old a) (sym next) (record {
        orders = record { nodes = λ k. so_far.orders.nodes k ∙ ap (λ (o : Option (List ℕ)). option_map (with_order_if (option_map (handles_at (children_at old k)) o)) (node_at old k)) (sym (stays k)); handles = so_far.orders.handles };
        root = so_far.root;
        inactive = so_far.inactive;
      })
    where
      stays : (k : Handle) → places_after (take i cs ++ c ∷ []) k ≡ places_after (take i cs) k
      stays k =
          more_places (take i cs) c k alone
          ∙ (ap (λ (o : Option (List ℕ)). cond {A = Option (List ℕ)} (same k c.at) o (places_after (take i cs) k)) given ∙ elim (cases_same k c.at) [
            | inl e ↦
                ap (λ (b : Bool). cond {A = Option (List ℕ)} b None (places_after (take i cs) k)) (same-eq k c.at e)
                ∙ sym (absent_places (take i cs) k (ap (λ (h : Handle). times h (map (λ (d : Change). d.at) (take i cs))) e ∙ alone))
            | inr ne ↦ ap (λ (b : Bool). cond {A = Option (List ℕ)} b None (places_after (take i cs) k)) (same-ne k c.at ne)
          ])

  pub one_more : (b : Tree RenderObject) (places : List ℕ) → c.order ≡ Some places → Reordered a b c.at (handles_at (children_at a c.at) places) → HasOrdered (take (i + 1) cs) old b
  one_more b places given moved =
      subst (λ (ds : List Change). HasOrdered ds old b) (sym next) (record {
        orders = record { nodes = λ k. all.nodes k ∙ ap (λ (o : Option (List Handle)). option_map (with_order_if o) (node_at old k)) (order_is k); handles = all.handles };
        root = moved.root ∙ so_far.root;
        inactive = moved.inactive ∙ so_far.inactive;
      })
    where
      hs : List Handle
      hs = handles_at (children_at a c.at) places

      all : ReordersAll old.nodes b.nodes (λ k. cond {A = Option (List Handle)} (same k c.at) (Some (handles_at (children_at a c.at) places)) (orders_after old (take i cs) k))
      all = reorders_more old a b (orders_after old (take i cs)) c.at (handles_at (children_at a c.at) places) so_far.orders moved.reorders

      order_is : (k : Handle) → cond {A = Option (List Handle)} (same k c.at) (Some (handles_at (children_at a c.at) places)) (orders_after old (take i cs) k) ≡ orders_after old (take i cs ++ c ∷ []) k
      order_is k =
          elim (cases_same k c.at) [
            | inl e ↦
                ap (λ (b : Bool). cond {A = Option (List Handle)} b (Some (handles_at (children_at a c.at) places)) (orders_after old (take i cs) k)) (same-eq k c.at e)
                ∙ (ap (λ (x : Option (TreeNode RenderObject)). Some (handles_at (children_of x) places)) (still_there ∙ ap (node_at old) (sym e))
                ∙ sym (ap (option_map (handles_at (children_at old k))) (more_places (take i cs) c k alone
                ∙ (ap (λ (b : Bool). cond {A = Option (List ℕ)} b c.order (places_after (take i cs) k)) (same-eq k c.at e) ∙ given))))
            | inr ne ↦
                ap (λ (b : Bool). cond {A = Option (List Handle)} b (Some (handles_at (children_at a c.at) places)) (orders_after old (take i cs) k)) (same-ne k c.at ne)
                ∙ sym (ap (option_map (handles_at (children_at old k))) (more_places (take i cs) c k alone
                ∙ ap (λ (b : Bool). cond {A = Option (List ℕ)} b c.order (places_after (take i cs) k)) (same-ne k c.at ne)))
          ]

pub all_ordered : (cs : List Change) (i : ℕ) (old now : Tree RenderObject) → length cs ≤ i → HasOrdered (take i cs) old now → HasOrdered cs old now
all_ordered cs i old now over so_far = subst (λ (ds : List Change). HasOrdered ds old now) (take_all i cs over) so_far

-- ---- widgets, and then orders

module _ (cs : List Change) (t mid : Tree RenderObject) (taken : HasTaken cs t mid) where
  kids : (k : Handle) → children_at mid k ≡ children_at t k
  kids k = ap children_of (taken.nodes k) ∙ by_node (node_at t k)
    where
      by_node : (x : Option (TreeNode RenderObject)) → children_of (option_map (λ (n : TreeNode RenderObject). record n { value = changed cs k n.value }) x) ≡ children_of x
      by_node None = refl
      by_node (Some n) = refl

  live_mid : (k : Handle) → IsNode t k → IsNode mid k
  live_mid k live = subst IsSome (sym (taken.nodes k)) (by_node (node_at t k) live)
    where
      by_node : (x : Option (TreeNode RenderObject)) → IsSome x → IsSome (option_map (λ (n : TreeNode RenderObject). record n { value = changed cs k n.value }) x)
      by_node None live = absurd (cc)
      by_node (Some n) live = refl

  can_mid : (k : Handle) (hs : List Handle) → CanReorder t k hs → CanReorder mid k hs
  can_mid k hs can = record { live = live_mid k can.live; kept = λ h. can.kept h ∙ sym (ap (times h) (kids k)) }

  order_mid : (k : Handle) (o : Option (List ℕ)) → IfSome o (λ places. All (λ i. i < length (children_at t k)) places × CanReorder t k (handles_at (children_at t k) places))
      → IfSome o (λ places. All (λ i. i < length (children_at mid k)) places × CanReorder mid k (handles_at (children_at mid k) places))
  order_mid k None can = tt
  order_mid k (Some places) can =
      subst (λ (ks : List Handle). All (λ i. i < length ks) places × CanReorder mid k (handles_at ks places)) (sym (kids k)) (can.0, can_mid k (handles_at (children_at t k) places) can.1)

  -- the orders are possible once the widgets are taken
  pub orders_then : All (CanOrder t) cs → All (CanOrder mid) cs
  orders_then all k d less = order_mid (get_or cs k d).at (get_or cs k d).order (all k d less)

  one_order : (k : Handle) (o : Option (List ℕ)) → IfSome o (λ places. All (λ i. i < length (children_at mid k)) places × CanReorder mid k (handles_at (children_at mid k) places))
      → IfSome (option_map (handles_at (children_at mid k)) o) (CanReorder mid k)
  one_order k None can = tt
  one_order k (Some places) can = can.1

  can_all : (ds : List Change) → All (CanOrder mid) ds → (k : Handle) → IfSome (option_map (handles_at (children_at mid k)) (places_after ds k)) (CanReorder mid k)
  can_all [] all k = tt
  can_all (d ∷ ds) all k = elim (cases_same k d.at) [
    | inl e ↦
        subst (λ (b : Bool). IfSome (option_map (handles_at (children_at mid k)) (cond {A = Option (List ℕ)} b d.order (places_after ds k))) (CanReorder mid k)) (sym (same-eq k d.at e))
        (subst (λ (h : Handle). IfSome (option_map (handles_at (children_at mid h)) d.order) (CanReorder mid h)) (sym e) (one_order d.at d.order (all zero d (omega arith))))
    | inr ne ↦
        subst (λ (b : Bool). IfSome (option_map (handles_at (children_at mid k)) (cond {A = Option (List ℕ)} b d.order (places_after ds k))) (CanReorder mid k)) (sym (same-ne k d.at ne))
        (can_all ds (λ j x less. all (suc j) x (omega (arith, less))) k)
  ]

  module _ (now : Tree RenderObject) (ordered : HasOrdered cs mid now) where
    ordered_node : (o : Option (List ℕ)) (m : TreeNode RenderObject) → with_order_if (option_map (handles_at m.children) o) m ≡ record m { children = order_at m.children o }
    ordered_node None m = refl
    ordered_node (Some places) m = refl

    node_then : (k : Handle) → node_at now k ≡ option_map (node_after cs k) (node_at t k)
    node_then k = by_node (node_at t k) refl
      where
        by_node : (x : Option (TreeNode RenderObject)) → node_at t k ≡ x → node_at now k ≡ option_map (node_after cs k) (node_at t k)
        by_node None e =
            let gone : node_at mid k ≡ None = taken.nodes k ∙ ap (option_map (λ (m : TreeNode RenderObject). record m { value = changed cs k m.value })) e in
            ordered.orders.nodes k ∙ (ap (option_map (with_order_if (orders_after mid cs k))) gone ∙ sym (ap (option_map (node_after cs k)) e))
        by_node (Some n) e =
            let m : TreeNode RenderObject = record n { value = changed cs k n.value } in
            let here : node_at mid k ≡ Some m = taken.nodes k ∙ ap (option_map (λ (x : TreeNode RenderObject). record x { value = changed cs k x.value })) e in
            ordered.orders.nodes k
            ∙ (ap (option_map (with_order_if (orders_after mid cs k))) here
            ∙ (ap (λ (ks : List Handle). Some (with_order_if (option_map (handles_at ks) (places_after cs k)) m)) (ap children_of here)
            ∙ (ap (λ (x : TreeNode RenderObject). Some x) (ordered_node (places_after cs k) m) ∙ sym (ap (option_map (node_after cs k)) e))))

    pub changes_all : HasChanged cs t now
    changes_all = record {
      nodes = node_then;
      handles = keeps_then t.nodes mid.nodes now.nodes taken.handles ordered.orders.handles;
      root = ordered.root ∙ taken.root;
      inactive = ordered.inactive ∙ taken.inactive;
    }

    same_tops : (a b : Tree RenderObject) → b.root ≡ a.root → b.inactive ≡ a.inactive → tops_at b ≡ tops_at a
    same_tops a b root inactive = ap (λ (o : Option Handle). option_to_list o ++ b.inactive) root ∙ ap (λ (hs : List Handle). option_to_list a.root ++ hs) inactive

    pub is_after : All (CanOrder t) cs → (f : Forest RenderObject) → Is t f → Is now (forest_after t cs f)
    is_after can f is =
        let is_mid : Is mid (map_values (changed cs) f) = mapped_is (changed cs) t mid f is taken.nodes (same_tops t mid taken.root taken.inactive) in
        let is_now : Is now (reordered (orders_after mid cs) (map_values (changed cs) f)) =
        all_reordered_is mid now (orders_after mid cs) (map_values (changed cs) f) is_mid (can_all cs (orders_then can)) ordered.orders (same_tops mid now ordered.root ordered.inactive) in
        subst (λ (g : Forest RenderObject). Is now g) (λ i. reordered (λ h. option_map (handles_at (kids h i)) (places_after cs h)) (map_values (changed cs) f)) is_now
