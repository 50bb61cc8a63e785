-- What widgets go on from is known where the old tree is.
use Rattle.std.proofs.Common.{ℕ, suc, eqb, Bool, true, false, cond, Option, Some, None, IfSome, List, [], ◌∷◌, ◌++◌}
use Rattle.std.specs.List.{find, filter}
use Rattle.fx_expr.specs.declared.values.Value.{Value}
use Rattle.widget_keys.specs.declared.keys.Key.{Key}
use Rattle.widget_keys.specs.declared.keys.Key.TheVariants as key
use Rattle.widget_model.specs.Plain.{PlainWidget, key_of}
use Rattle.widget_model.specs.Update.{same_type, updates}
use Rattle.reconcile.specs.Matching.{matching}
use Rattle.plain_tree.specs.PlainNode.{PlainNode, node, PlainNodes, no_nodes, more_nodes, list_of, number_of, widget_of, index_of, children_of}
use Rattle.plain_tree.specs.States.{preorder_of, preorder_in}
use Rattle.build_form.specs.Partner.{Arrival, node_at_any, arrivals_from, nodes_had, widgets_had, arrivals, root_arrival, has_global, holder_in, of_type, candidate, partner_of}
use Rattle.build_form.specs.Entering.{Blueprint}
use Rattle.build_walk.specs.Past.{Pasts}
use Rattle.build_walk.specs.Fresh.{IsPastOf, IsKnown, AreKnown}
use Rattle.build_walk.proofs.Stepping.{AllOf}

module _ (b : Blueprint) (pasts : Pasts) where
  -- the node that stood where a widget is entered is known
  abbrev pub IsKnownArrival : Arrival → Type 0
  IsKnownArrival a = IfSome a.beside (IsKnown b pasts)

  abbrev pub AreKnownHolders : (Value → Option PlainNode) → Type 0
  AreKnownHolders holder = (k : Value) → IfSome (holder k) (IsKnown b pasts)

  abbrev KnownList : List PlainNode → Type 0
  KnownList = AllOf (IsKnown b pasts)

  listed : (ns : PlainNodes) → AreKnown b pasts ns → KnownList (list_of ns)
  listed no_nodes h = tt
  listed (more_nodes n ns) h = (h.0, listed ns h.1)

  found_when : (n : PlainNode) (t : Bool) (rest : Option PlainNode) → IsKnown b pasts n → IfSome rest (IsKnown b pasts) → IfSome (cond t (Some n) rest) (IsKnown b pasts)
  found_when n true rest h r = h
  found_when n false rest h r = r

  found : (ns : List PlainNode) (test : PlainNode → Bool) → KnownList ns → IfSome (find test ns) (IsKnown b pasts)
  found [] test h = tt
  found (n ∷ ns) test h = found_when n (test n) (find test ns) h.0 (found ns test h.1)

  beside : (ns : List PlainNode) (m : Option ℕ) → KnownList ns → IfSome (node_at_any ns m) (IsKnown b pasts)
  beside ns None h = tt
  beside ns (Some j) h = found ns (λ n. eqb (index_of n) j) h

  all_from : (ns : List PlainNode) (i : ℕ) (ws : List PlainWidget) (ms : List (Option ℕ)) → KnownList ns → AllOf IsKnownArrival (arrivals_from ns i ws ms)
  all_from ns i [] ms h = tt
  all_from ns i (w ∷ ws) [] h = (tt, all_from ns (suc i) ws [] h)
  all_from ns i (w ∷ ws) (m ∷ ms) h = (beside ns m h, all_from ns (suc i) ws ms h)

  below_known : (n : PlainNode) → IsKnown b pasts n → KnownList (children_of n)
  below_known (node number widget fields scroll index children) h = listed children h.1

  had : (partner : Option PlainNode) → IfSome partner (IsKnown b pasts) → KnownList (nodes_had partner)
  had None h = tt
  had (Some n) h = below_known n h

  pub arrivals_known : (partner : Option PlainNode) (ws : List PlainWidget) → IfSome partner (IsKnown b pasts) → AllOf IsKnownArrival (arrivals partner ws)
  arrivals_known partner ws h = all_from (nodes_had partner) 0 ws (matching (widgets_had partner) ws) (had partner h)

  -- ---- which one it goes on from

  typed_when : (n : PlainNode) (t : Bool) → IsKnown b pasts n → IfSome (cond t (Some n) None) (IsKnown b pasts)
  typed_when n true h = h
  typed_when n false h = tt

  typed : (w : PlainWidget) (o : Option PlainNode) → IfSome o (IsKnown b pasts) → IfSome (of_type w o) (IsKnown b pasts)
  typed w None h = tt
  typed w (Some n) h = typed_when n (same_type (widget_of n) w) h

  chosen : (k : Key Value) (holder : Value → Option PlainNode) (o : Option PlainNode) → AreKnownHolders holder → IfSome o (IsKnown b pasts) → IfSome (candidate k holder o) (IsKnown b pasts)
  chosen key.None holder o h k = k
  chosen (key.Local v) holder o h k = k
  chosen (key.Global v) holder o h k = h v

  pub partner_known : (holder : Value → Option PlainNode) (a : Arrival) → AreKnownHolders holder → IsKnownArrival a → IfSome (partner_of holder a) (IsKnown b pasts)
  partner_known holder a h k = typed a.widget (candidate (key_of a.widget) holder a.beside) (chosen (key_of a.widget) holder a.beside h k)

  top : (n : PlainNode) → IsKnown b pasts n → IfSome (pasts (number_of n)) (IsPastOf b n)
  top (node number widget fields scroll index children) h = h.0

  pub tops : (o : Option PlainNode) → IfSome o (IsKnown b pasts) → IfSome o (λ n. IfSome (pasts (number_of n)) (IsPastOf b n))
  tops None h = tt
  tops (Some n) h = top n h

  -- ---- the holders of global keys, and the root

  append_known : (xs ys : List PlainNode) → KnownList xs → KnownList ys → KnownList (xs ++ ys)
  append_known [] ys h k = k
  append_known (x ∷ xs) ys h k = (h.0, append_known xs ys h.1 k)

  mutual
    preorder_known : (n : PlainNode) → IsKnown b pasts n → KnownList (preorder_of n)
    preorder_known (node number widget fields scroll index children) h = (h, preorders_known children h.1)

    preorders_known : (ns : PlainNodes) → AreKnown b pasts ns → KnownList (preorder_in ns)
    preorders_known no_nodes h = tt
    preorders_known (more_nodes n ns) h = append_known (preorder_of n) (preorder_in ns) (preorder_known n h.0) (preorders_known ns h.1)

  pub holders_known : (old : Option PlainNode) → IfSome old (IsKnown b pasts) → AreKnownHolders (holder_in old)
  holders_known None h = λ k. tt
  holders_known (Some n) h = λ k. found (preorder_of n) (has_global k) (preorder_known n h)

  pub root_known : (old : Option PlainNode) (w : PlainWidget) → IfSome old (IsKnown b pasts) → IsKnownArrival (root_arrival old w)
  root_known None w h = tt
  root_known (Some n) w h = typed_when n (updates (widget_of n) w) h

  -- ---- some of the arrivals

  filtered_when : (t : Bool) (a : Arrival) (more : List Arrival) → IsKnownArrival a → AllOf IsKnownArrival more → AllOf IsKnownArrival (cond t (a ∷ more) more)
  filtered_when true a more h k = (h, k)
  filtered_when false a more h k = k

  pub filtered : (test : Arrival → Bool) (arriving : List Arrival) → AllOf IsKnownArrival arriving → AllOf IsKnownArrival (filter test arriving)
  filtered test [] h = tt
  filtered test (a ∷ arriving) h = filtered_when (test a) a (filter test arriving) h.0 (filtered test arriving h.1)
