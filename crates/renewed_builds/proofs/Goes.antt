-- What is below the next component can take what its body gave: then one step more leads on.
use Rattle.std.proofs.Common.{◌≡◌, ℕ, suc, ◌+◌, ◌≤◌, ◌==◌, ◌&&◌, Bool, true, false, cond, is_some, Option, Some, None, option_map, List, [], ◌∷◌, ◌++◌, map, take, drop, refl, sym, ap, ◌∙◌, subst, arith}
use Rattle.std.specs.List.{All, list_all}
use Rattle.std.specs.Option.{option_or}
use Rattle.std.proofs.lemmas.Bool.{and_parts}
use Rattle.std.proofs.lemmas.List.{append-nil, append_assoc}
use Rattle.std.proofs.lemmas.List.Elements.{All-nil, All-cons, All-append, All-weaker}
use Rattle.fx_handles.specs.declared.Handle.{Handle}
use Rattle.fx_handles.specs.Handle.{same, AreDistinct}
use Rattle.node_tree.specs.Forest.{TreeNode, Forest, In, IsDistinct, below, map_values, tree_of, Stands}
use Rattle.node_tree.specs.Forest.Forest.{none, tree}
use Rattle.node_tree.specs.Tree.{Tree, Is, IsNode, Holds, node_at, subtree_at, StandsAt}
use Rattle.node_tree.proofs.Children.{weigh-map, below-stands, opened}
use Rattle.widget_model.specs.Plain.{PlainWidget}
use Rattle.program_check.specs.Checked.{PlainChecked}
use Rattle.program_check.specs.TypedChecked.{IsTypedChecked}
use Rattle.reconcile.specs.Matching.{matching}
use Rattle.plain_tree.specs.At.{node_in, is_there_in, changed_in}
use Rattle.plain_tree.specs.At.{node_at as plain_node_at}
use Rattle.plain_tree.specs.PlainNode.{PlainNode, node, PlainNodes, no_nodes, more_nodes, list_of, widget_of, nodes_of as listed}
use Rattle.build_form.specs.Entering.{depth_limit}
use Rattle.build_form.specs.Program.{blueprint_of}
use Rattle.element_tree.specs.Element.{Element, element_at, number_at, made_count}
use Rattle.element_tree.specs.Nodes.{IsLike, nodes_of}
use Rattle.build_walk.specs.Kept.{node_over}
use Rattle.build_walk.specs.Standing.{pasts_from}
use Rattle.build_walk.specs.Telling.{TellPasts}
use Rattle.build_walk.proofs.Made.{list_of-nodes_of}
use Rattle.settled_builds.specs.Looks.{NewLook}
use Rattle.settled_builds.specs.Places.{NodePlace, spot_at}
use Rattle.settled_builds.specs.Rearranged.{NewOrder, looks_in, orders_in, drawn_in, each_looks, each_order, each_drawn, IsRearrangedFrom}
use Rattle.settled_builds.specs.Retaken.{all_asked, can_retake_below, gathered, retaken, retaking_below}
use Rattle.settled_builds.specs.Settled.{AreSettled}
use Rattle.settled_builds.specs.Steps.{CanTakeAnew, without}
use Rattle.settled_builds.specs.Taken.{nodes_below}
use Rattle.build_owner.specs.Standing.{next_at}
use Rattle.renewed_builds.specs.Renewing.{Change, can_take_drawn, changes_of, moves_of, stored_at, taken_at}
use Rattle.renewed_builds.specs.Taking.{after_changes, HaveTheirOwn, StandInTurn}
use Rattle.renewed_builds.specs.Several.{Given, CanTake, keeps_order, are_none, all_changes, all_looks, all_orders, looks_below, orders_below, flagged_in, IsStaleTree}
use Rattle.renewed_builds.specs.Going.{KeepsNodes, IsStepped}
use Rattle.renewed_builds.proofs.Alongside.{SpotBefore, spots_then, alike_below, anew_alike, were_marked}
use Rattle.renewed_builds.proofs.Becoming.{TakesAnother, IsTaking, to_other, all_taking, differ_then}
use Rattle.renewed_builds.proofs.Flagged.{flagged_then}
use Rattle.renewed_builds.proofs.Gone.{HasGone, Built, component, spot, later, before, flagged, it, e, ws, one, gs, spot_u, left_now, stands_now, forest_now, was, live_t, there_v, live_v, low, low_v, nodes_u, nodes_v, still_is, changes_is, keeps_all}
use Rattle.renewed_builds.proofs.InTurn.{rows_below}
use Rattle.renewed_builds.proofs.Mapped.{nodes_then, tree_of-map, giving, giving_like, stored_maps, after_like, number_after, nodes_alike, top_node, node_there, has_number_map, unmoved, orders_none, moves_none, written_maps, row_still}
use Rattle.renewed_builds.proofs.Retaken.{changed_alone, has_number}
use Rattle.renewed_builds.proofs.Retaking.{HasNumberAt, nodes_can, nodes_drawn, nodes_taken}
use Rattle.renewed_builds.proofs.Rows.{o_of, g_of}
use Rattle.renewed_builds.proofs.Seen.{after_append}
use Rattle.renewed_builds.proofs.Took.{map-twice}
use Rattle.renewed_builds.proofs.Whole.{taken_is, row_away}
use Rattle.renewed_builds.proofs.Written.{written}

-- ---- lists of what is given

changes_more : (t : Tree Element) (xs : List Given) (g : Given) → all_changes t (xs ++ g ∷ []) ≡ all_changes t xs ++ changes_of (below (subtree_at t g.at)) g.widgets
changes_more t [] g = append-nil (changes_of (below (subtree_at t g.at)) g.widgets)
changes_more t (x ∷ xs) g =
    ap (λ (l : List Change). changes_of (below (subtree_at t x.at)) x.widgets ++ l) (changes_more t xs g)
    ∙ sym (append_assoc (changes_of (below (subtree_at t x.at)) x.widgets) (all_changes t xs) (changes_of (below (subtree_at t g.at)) g.widgets))

looks_more : (scrolled : ℕ → ℕ) (t : Tree Element) (xs : List Given) (g : Given) → all_looks scrolled t (xs ++ g ∷ []) ≡ all_looks scrolled t xs ++ looks_below scrolled (below (subtree_at t g.at)) g.widgets
looks_more scrolled t [] g = append-nil (looks_below scrolled (below (subtree_at t g.at)) g.widgets)
looks_more scrolled t (x ∷ xs) g =
    ap (λ (l : List NewLook). looks_below scrolled (below (subtree_at t x.at)) x.widgets ++ l) (looks_more scrolled t xs g)
    ∙ sym (append_assoc (looks_below scrolled (below (subtree_at t x.at)) x.widgets) (all_looks scrolled t xs) (looks_below scrolled (below (subtree_at t g.at)) g.widgets))

orders_more : (scrolled : ℕ → ℕ) (t : Tree Element) (xs : List Given) (g : Given) → all_orders scrolled t (xs ++ g ∷ []) ≡ all_orders scrolled t xs ++ orders_below scrolled (below (subtree_at t g.at)) g.widgets
orders_more scrolled t [] g = append-nil (orders_below scrolled (below (subtree_at t g.at)) g.widgets)
orders_more scrolled t (x ∷ xs) g =
    ap (λ (l : List NewOrder). orders_below scrolled (below (subtree_at t x.at)) x.widgets ++ l) (orders_more scrolled t xs g)
    ∙ sym (append_assoc (orders_below scrolled (below (subtree_at t x.at)) x.widgets) (all_orders scrolled t xs) (orders_below scrolled (below (subtree_at t g.at)) g.widgets))

at_more : (xs : List Given) (g : Given) → map (λ (z : Given). z.at) (xs ++ g ∷ []) ≡ map (λ (z : Given). z.at) xs ++ g.at ∷ []
at_more [] g = refl
at_more (x ∷ xs) g = ap (λ (l : List Handle). x.at ∷ l) (at_more xs g)

-- ---- one step

-- the children of a node, of which it was told
abbrev children_of : Option PlainNode → List PlainNode
children_of None = []
children_of (Some n) = list_of (nodes_below n)

some_number : (o : Option Element) (n : ℕ) → option_map (λ (z : Element). z.number) o ≡ Some n → (z : Element) × (o ≡ Some z)
some_number None n is = cc
some_number (Some z) n is = (z, refl)

some_is : {X : Type 0} {p q : X} → Some p ≡ Some q → p ≡ q
some_is is = cc

module _ (s : Built) (typed : IsTypedChecked s.a.c) (holds : Holds s.v s.a.h) (equal : s.can ≡ true) (taken : take (s.a.done + 1) s.a.hs ≡ take s.a.done s.a.hs ++ s.a.h ∷ []) (rest_is : drop (s.a.done + 1) s.a.hs ≡ s.a.rest) where
  abbrev c : PlainChecked
  c = s.a.c

  abbrev t : Tree Element
  t = s.a.t

  abbrev u : Tree Element
  u = s.a.u

  abbrev v : Tree Element
  v = s.v

  abbrev h : Handle
  h = s.a.h

  abbrev y : IsStaleTree s.a.c s.a.t s.a.hs
  y = s.a.x

  abbrev k : HasGone s.a.c s.a.t s.a.u s.a.hs s.a.x s.a.done s.a.cs
  k = s.a.gone

  abbrev number : ℕ
  number = (e s).number

  abbrev own_place : NodePlace
  own_place = (it s).place

  abbrev next_place : NodePlace
  next_place = later s.a

  -- it can
  still : (can_take_drawn (low s) (ws s) && (list_all keeps_order (changes_of (low s) (ws s)) && are_none (moves_of (low s) (ws s)))) ≡ true
  still = sym (still_is s) ∙ equal

  drawn : can_take_drawn (low s) (ws s) ≡ true
  drawn = (and_parts (can_take_drawn (low s) (ws s)) (list_all keeps_order (changes_of (low s) (ws s)) && are_none (moves_of (low s) (ws s))) still).0

  abbrev low_now : Forest Element
  low_now = below (subtree_at v h)

  still_now : (can_take_drawn low_now (ws s) && (list_all keeps_order (changes_of low_now (ws s)) && are_none (moves_of low_now (ws s)))) ≡ true
  still_now = sym s.st.can_is ∙ equal

  drawn_now : can_take_drawn low_now (ws s) ≡ true
  drawn_now = (and_parts (can_take_drawn low_now (ws s)) (list_all keeps_order (changes_of low_now (ws s)) && are_none (moves_of low_now (ws s))) still_now).0

  quiet_now : (list_all keeps_order (changes_of low_now (ws s)) ≡ true) × (are_none (moves_of low_now (ws s)) ≡ true)
  quiet_now =
      and_parts (list_all keeps_order (changes_of low_now (ws s))) (are_none (moves_of low_now (ws s)))
      (and_parts (can_take_drawn low_now (ws s)) (list_all keeps_order (changes_of low_now (ws s)) && are_none (moves_of low_now (ws s))) still_now).1

  -- of its node
  abbrev low_nodes : PlainNodes
  low_nodes = listed (nodes_of y.scrolled (low s))

  node_is : nodes_below own_place.node ≡ low_nodes
  node_is = ap nodes_below (spot_u s).node ∙ ap (λ (ns : List PlainNode). listed ns) (nodes_u s)

  below_is : nodes_below next_place.node ≡ low_nodes
  below_is = alike_below own_place next_place (before s.a).alike ∙ node_is

  can_own : can_retake_below (ws s) own_place.node ≡ true
  can_own =
      subst (λ (n : PlainNode). can_retake_below (ws s) n ≡ true) (sym (spot_u s).node)
      (subst (λ (ns : List PlainNode). can_retake_below (ws s) (over_these ns) ≡ true) (sym (nodes_u s)) (nodes_can y.scrolled (low s) (ws s) drawn))
    where
      over_these : List PlainNode → PlainNode
      over_these ns = node (e s).number (e s).widget (e s).fields (y.scrolled (e s).number) (e s).index (listed ns)

  anew : CanTakeAnew (blueprint_of c) (ws s) next_place
  anew = anew_alike own_place next_place (before s.a).alike (blueprint_of c) (ws s) (record { given = s.st.given; can = can_own })

  drawn_next : drawn_in (ws s) next_place.node ≡ true
  drawn_next = ap (λ (ns : PlainNodes). all_asked (each_drawn ns) (ws s) (matching (map widget_of (list_of ns)) (ws s))) below_is ∙ nodes_drawn y.scrolled (low s) (ws s) drawn

  looks_next : looks_in (ws s) next_place.node ≡ looks_below y.scrolled (low s) (ws s)
  looks_next = ap (λ (ns : PlainNodes). gathered (each_looks ns) 0 (ws s) (matching (map widget_of (list_of ns)) (ws s))) below_is

  orders_next : orders_in (ws s) next_place.node ≡ orders_below y.scrolled (low s) (ws s)
  orders_next = ap (λ (ns : PlainNodes). gathered (each_order ns) 0 (ws s) (matching (map widget_of (list_of ns)) (ws s))) below_is

  -- the tree
  abbrev now : PlainNode
  now = retaken (ws s) number k.now

  rearranged_now : IsRearrangedFrom (blueprint_of c) (left_now s) (all_looks y.scrolled t (gs s)) (all_orders y.scrolled t (gs s)) y.tree now
  rearranged_now =
      let begun = s.a.laws.rearranged (blueprint_of c) k.left number (next_at t) y.root y.tree k.now next_place (ws s) (all_looks y.scrolled t k.given) (all_orders y.scrolled t k.given) k.rearranged k.ready (spot s.a).1 anew drawn_next in
      let looks : all_looks y.scrolled t k.given ++ looks_in (ws s) next_place.node ≡ all_looks y.scrolled t (gs s) =
      ap (λ (l : List NewLook). all_looks y.scrolled t k.given ++ l) looks_next ∙ sym (looks_more y.scrolled t k.given (one s)) in
      let orders : all_orders y.scrolled t k.given ++ orders_in (ws s) next_place.node ≡ all_orders y.scrolled t (gs s) =
      ap (λ (l : List NewOrder). all_orders y.scrolled t k.given ++ l) orders_next ∙ sym (orders_more y.scrolled t k.given (one s)) in
      subst (λ (os : List NewOrder). IsRearrangedFrom (blueprint_of c) (left_now s) (all_looks y.scrolled t (gs s)) os y.tree now) orders
      (subst (λ (ls : List NewLook). IsRearrangedFrom (blueprint_of c) (left_now s) ls (all_orders y.scrolled t k.given ++ orders_in (ws s) next_place.node) y.tree now) looks begun)

  -- the elements that would stand for it
  abbrev after : Handle → Element → Element
  after = after_changes s.a.cs

  abbrev stored : Forest Element
  stored = stored_at h (ws s) k.stands.forest

  abbrev virtual : Forest Element
  virtual = map_values after stored

  nodes_virtual : nodes_of y.scrolled virtual ≡ k.now ∷ []
  nodes_virtual =
      ap (λ (f : Forest Element). nodes_of y.scrolled (map_values after f)) (stored_maps h (ws s) k.stands.forest)
      ∙ ap (nodes_of y.scrolled) (map-twice after (giving h (ws s)) k.stands.forest)
      ∙ nodes_alike y.scrolled after (λ j z. after j (giving h (ws s) j z)) k.stands.forest (λ j z. after_like s.a.cs j z (giving h (ws s) j z) (giving_like h (ws s) j z))
      ∙ sym k.nodes

  number_now : number_at v h ≡ Some number
  number_now = s.numbers h ∙ ap (option_map (λ (z : Element). z.number)) (it s).at

  only : (j : Handle) → number_at v j ≡ Some number → j ≡ h
  only j is = s.once number j h (sym (s.numbers j) ∙ is) (ap (option_map (λ (z : Element). z.number)) (it s).at)

  is_now : Is v stored
  is_now = s.st.stored k.stands.forest k.stands.is

  has : HasNumberAt h number virtual
  has = has_number_map after h number stored (number_after s.a.cs) (has_number v h number number_now only None stored is_now.stands)

  node_then : plain_node_at number k.now ≡ Some next_place.node
  node_then = s.a.laws.node (blueprint_of c) k.left number k.now next_place (spot s.a).1

  opened_now : subtree_at v h ≡ tree h (there_v s).0 low_now none
  opened_now = opened v h (there_v s).0 holds (there_v s).1

  tree_virtual : tree_of h virtual ≡ tree h (after h (there_v s).0) (map_values after low_now) none
  tree_virtual = tree_of-map after h stored ∙ ap (map_values after) (sym (s.part v stored is_now (live_v s)) ∙ opened_now)

  top_virtual : Some (node_over y.scrolled (after h (there_v s).0) (map_values after low_now)) ≡ Some next_place.node
  top_virtual =
      sym (ap (top_node y.scrolled) tree_virtual)
      ∙ sym (node_there y.scrolled h number virtual has)
      ∙ ap (λ (ns : List PlainNode). node_in number (listed ns)) nodes_virtual
      ∙ ap (λ (o : Option PlainNode). option_or o None) node_then

  unmoved_now : map_values after low_now ≡ low_now
  unmoved_now =
      unmoved y.scrolled s.a.cs low_now
      (sym (list_of-nodes_of (nodes_of y.scrolled (map_values after low_now)))
      ∙ ap children_of top_virtual
      ∙ ap list_of below_is
      ∙ list_of-nodes_of (nodes_of y.scrolled (low s))
      ∙ sym (nodes_v s))

  low_virtual : below (tree_of h virtual) ≡ low_now
  low_virtual = ap below tree_virtual ∙ unmoved_now

  abbrev more : List Change
  more = changes_of low_now (ws s)

  distinct_virtual : IsDistinct virtual
  distinct_virtual = λ j. subst (λ (n : ℕ). n ≤ 1) (sym (weigh-map after (λ p. cond {A = ℕ} (same p j) 1 0) stored)) (is_now.distinct j)

  inside_virtual : In h virtual
  inside_virtual = subst (λ (n : ℕ). 1 ≤ n) (sym (weigh-map after (λ p. cond {A = ℕ} (same p h) 1 0) stored)) (is_now.whole h (live_v s))

  -- what stands below it has its children
  rows : HaveTheirOwn low_now × StandInTurn 0 low_now
  rows =
      subst (λ (f : Forest Element). HaveTheirOwn (below f) × StandInTurn 0 (below f)) (sym (s.part v stored is_now (live_v s)))
      (rows_below y.scrolled h stored (subst (λ (ns : List PlainNode). AreSettled (listed ns)) (stands_now s).nodes (y.ready.settled, tt)))

  low_stands : Stands (node_at v) (Some h) low_now
  low_stands = (below-stands v h holds).0

  low_distinct : IsDistinct low_now
  low_distinct = (below-stands v h holds).2

  taken_then : map_values (after_changes more) virtual ≡ taken_at h (ws s) virtual
  taken_then =
      sym (ap (λ ms. written (o_of more) (g_of more ms) virtual) (moves_none (moves_of low_now (ws s)) quiet_now.1)
      ∙ written_maps (o_of more) (after_changes more) (orders_none more quiet_now.0) virtual)
      ∙ taken_is h (ws s) (o_of more) (g_of more (moves_of low_now (ws s))) low_now (row_away low_now (ws s))
      (row_still low_now s.st.widget rows.0 low_distinct rows.1 drawn_now) virtual distinct_virtual inside_virtual low_virtual

  -- all changes so far, of the elements as they are now
  changed_then : map_values (after_changes (s.a.cs ++ more)) stored ≡ taken_at h (ws s) virtual
  changed_then =
      ap (λ (g : Handle → Element → Element). map_values g stored) (λ i j z. after_append s.a.cs more j z i)
      ∙ sym (map-twice (after_changes more) after stored)
      ∙ taken_then

  more_is : s.more ≡ s.a.cs ++ more
  more_is = s.st.changes equal

  all_taken : listed (nodes_of y.scrolled (taken_at h (ws s) virtual)) ≡ more_nodes now no_nodes
  all_taken =
      nodes_taken y.scrolled h number (ws s) virtual has distinct_virtual
      ∙ ap (λ (ns : List PlainNode). changed_in (retaking_below (ws s)) number (listed ns)) nodes_virtual
      ∙ changed_alone (ws s) number k.now (ap (λ (o : Option PlainNode). is_some (option_or o None)) node_then)

  nodes_now : now ∷ [] ≡ nodes_of y.scrolled (map_values (after_changes s.more) stored)
  nodes_now =
      sym (ap list_of all_taken) ∙ list_of-nodes_of (nodes_of y.scrolled (taken_at h (ws s) virtual))
      ∙ sym (ap (nodes_of y.scrolled) (ap (λ (l : List Change). map_values (after_changes l) stored) more_is ∙ changed_then))

  -- the changes are of elements that took none before
  keeps_now : KeepsNodes t v
  keeps_now = nodes_then t u v k.keeps s.keeps

  numbers_now : (j : Handle) → number_at v j ≡ number_at t j
  numbers_now j = s.numbers j ∙ k.numbers j

  from_now : (x : Change) → IsTaking v x → IsTaking t x
  from_now x takes = λ z is.
      let w = some_number (element_at v x.element) z.number (numbers_now x.element ∙ ap (option_map (λ (a : Element). a.number)) is) in
      let q = keeps_now x.element w.0 w.1 in
      let same_one : q.0 ≡ z = some_is (sym q.1 ∙ is) in
      subst (λ (a : PlainWidget). TakesAnother a x.widget) (q.2.widget ∙ ap (λ (a : Element). a.widget) same_one) (takes w.0 w.1)

  all_now : All (IsTaking v) s.a.cs
  all_now = All-weaker (IsTaking t) (IsTaking v) (to_other t v keeps_now) s.a.cs k.takes

  takes_now : All (IsTaking t) s.more
  takes_now =
      subst (All (IsTaking t)) (sym more_is)
      (All-append (IsTaking t) s.a.cs more k.takes (All-weaker (IsTaking v) (IsTaking t) from_now more (all_taking v (Some h) low_now (ws s) low_stands drawn_now)))

  differ_now : AreDistinct (map (λ (x : Change). x.element) s.more)
  differ_now =
      subst (λ (l : List Change). AreDistinct (map (λ (x : Change). x.element) l)) (sym more_is)
      (differ_then s.a.laws.itself v s.a.cs all_now (Some h) low_now (ws s) low_stands low_distinct unmoved_now drawn_now k.differ)

  not_zero : s.a.done + 1 ≡ 0 → {P : Type 0} → P
  not_zero is = absurd (omega (arith, is))

  pub goes_on : HasGone c t v s.a.hs y (s.a.done + 1) s.more
  goes_on = record {
    left = left_now s;
    now = now;
    begun = λ is. not_zero is;
    typed = λ some. typed;
    stands = stands_now s;
    leads =
        s.a.laws.follow (blueprint_of c) (next_at t) y.root y.tree k.now now y.marks k.left (left_now s) s.a.done 1 k.leads
        (s.a.laws.leads (blueprint_of c) k.left number (next_at t) y.root k.now next_place (ws s) k.ready (spot s.a).1 anew);
    ready = s.a.laws.ready (blueprint_of c) k.left number (next_at t) y.root k.now next_place (ws s) k.ready (spot s.a).1 anew;
    entered = λ screen. k.entered screen ∙ s.a.laws.entered (blueprint_of c) screen k.left number (next_at t) y.root k.now next_place (ws s) k.ready (spot s.a).1 anew;
    spots = λ j marked.
        spots_then (spot_at j depth_limit (blueprint_of c).defaults 0 0 y.tree) (spot_at j depth_limit (blueprint_of c).defaults 0 0 k.now) (spot_at j depth_limit (blueprint_of c).defaults 0 0 now)
        (k.spots j (were_marked number j k.left marked)) (s.a.laws.spots (blueprint_of c) k.left number (next_at t) y.root k.now next_place (ws s) j k.ready (spot s.a).1 anew marked);
    given = gs s;
    of = at_more k.given (one s) ∙ ap (λ (l : List Handle). l ++ h ∷ []) k.of ∙ sym taken;
    can = All-append (CanTake t) k.given (one s ∷ []) k.can (All-cons (CanTake t) (one s) [] still (All-nil (CanTake t)));
    changes = more_is ∙ (λ i. k.changes i ++ changes_is s i) ∙ sym (changes_more t k.given (one s));
    forest = forest_now s;
    rearranged = rearranged_now;
    nodes = nodes_now;
    flagged = flagged_then h (ws s) s.a.rest k.stands.forest k.stands.is.distinct (flagged s.a) ∙ sym rest_is;
    differ = differ_now;
    takes = takes_now;
    keeps = keeps_now;
    numbers = numbers_now;
    made = s.made ∙ k.made;
  }
