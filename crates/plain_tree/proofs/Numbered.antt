-- The node with a number among the nodes of a list.
use Rattle.std.proofs.Common.{◌≡◌, ℕ, zero, suc, ◌+◌, ◌<◌, ◌≤◌, Bool, true, false, Option, Some, None, is_some, List, [], ◌∷◌, length, drop, take, set, get_or, IfNone, IfSome, refl, sym, ap, ◌∙◌, arith, ◌==◌, if◌then◌else◌}
use Rattle.std.specs.Option.{option_or}
use Rattle.std.proofs.lemmas.List.{at_drop_more, at_drop_all}
use Rattle.fx_expr.specs.declared.values.Value.{Value}
use Rattle.widget_model.specs.Plain.{PlainWidget}
use Rattle.plain_tree.specs.declared.changing.Change.{Change}
use Rattle.plain_tree.specs.declared.laid.LaidChild.{LaidChild}
use Rattle.plain_tree.specs.PlainNode.{PlainNode, node, PlainNodes, no_nodes, more_nodes, nodes_of}
use Rattle.plain_tree.specs.Laid.{Laid}
use Rattle.plain_tree.specs.LaidView.{laids_in}
use Rattle.plain_tree.specs.At.{node_at, node_in, is_there, is_there_in, changed_at, changed_in, laid_at, laid_in}

module _ (wanted : ℕ) (ns : List PlainNode) (i : ℕ) (n : PlainNode) (within : i < length ns) (is : n ≡ get_or ns i n) where
  one_on : node_in wanted (nodes_of (drop i ns)) ≡ option_or (node_at wanted n) (node_in wanted (nodes_of (drop (i + 1) ns)))
  one_on =
      at_drop_more (λ l. node_in wanted (nodes_of l)) ns i n within
      ∙ ap (λ m. option_or (node_at wanted m) (node_in wanted (nodes_of (drop (i + 1) ns)))) (sym is)

  pub found_here : (m : PlainNode) (whole : Option PlainNode) → whole ≡ node_in wanted (nodes_of (drop i ns)) → node_at wanted n ≡ Some m → whole ≡ Some m
  found_here m whole so_far here = so_far ∙ one_on ∙ ap (λ o. option_or o (node_in wanted (nodes_of (drop (i + 1) ns)))) here

  pub missed_here : (whole : Option PlainNode) → whole ≡ node_in wanted (nodes_of (drop i ns)) → node_at wanted n ≡ None
      → whole ≡ node_in wanted (nodes_of (drop (i + 1) ns))
  missed_here whole so_far here = so_far ∙ one_on ∙ ap (λ o. option_or o (node_in wanted (nodes_of (drop (i + 1) ns)))) here

pub missed_all : (wanted : ℕ) (ns : List PlainNode) (i : ℕ) (whole : Option PlainNode) → length ns ≤ i → whole ≡ node_in wanted (nodes_of (drop i ns)) → whole ≡ None
missed_all wanted ns i whole past so_far = so_far ∙ at_drop_all (λ l. node_in wanted (nodes_of l)) ns i past

module _ (wanted : ℕ) (cs : List LaidChild) (i : ℕ) (c : LaidChild) (within : i < length cs) (is : c ≡ get_or cs i c) where
  laid_on : laid_in wanted (laids_in (drop i cs)) ≡ option_or (laid_at wanted c.node) (laid_in wanted (laids_in (drop (i + 1) cs)))
  laid_on =
      at_drop_more (λ l. laid_in wanted (laids_in l)) cs i c within
      ∙ ap (λ (d : LaidChild). option_or (laid_at wanted d.node) (laid_in wanted (laids_in (drop (i + 1) cs)))) (sym is)

  pub laid_here : (l : Laid) (whole : Option Laid) → whole ≡ laid_in wanted (laids_in (drop i cs)) → laid_at wanted c.node ≡ Some l → whole ≡ Some l
  laid_here l whole so_far here = so_far ∙ laid_on ∙ ap (λ o. option_or o (laid_in wanted (laids_in (drop (i + 1) cs)))) here

  pub laid_missed : (whole : Option Laid) → whole ≡ laid_in wanted (laids_in (drop i cs)) → laid_at wanted c.node ≡ None
      → whole ≡ laid_in wanted (laids_in (drop (i + 1) cs))
  laid_missed whole so_far here = so_far ∙ laid_on ∙ ap (λ o. option_or o (laid_in wanted (laids_in (drop (i + 1) cs)))) here

pub laid_missed_all : (wanted : ℕ) (cs : List LaidChild) (i : ℕ) (whole : Option Laid) → length cs ≤ i → whole ≡ laid_in wanted (laids_in (drop i cs)) → whole ≡ None
laid_missed_all wanted cs i whole past so_far = so_far ∙ at_drop_all (λ l. laid_in wanted (laids_in l)) cs i past

-- where the first of two that is there is missing, both are
neither : {A : Type 0} (a b : Option A) → option_or a b ≡ None → (a ≡ None) × (b ≡ None)
neither (Some a) b e = cc
neither None b e = (refl, e)

first_there : {A : Type 0} (a b : Option A) → is_some a ≡ true → is_some (option_or a b) ≡ true
first_there (Some a) b e = refl
first_there None b e = cc

absent : (o : Option PlainNode) → is_some o ≡ false → o ≡ None
absent (Some n) e = cc
absent None e = refl

-- a list whose first nodes don't have a number, one node more
without_next : (wanted : ℕ) (ns : List PlainNode) (i : ℕ) (n : PlainNode) → i < length ns → n ≡ get_or ns i n
    → node_in wanted (nodes_of (take i ns)) ≡ None → is_there wanted n ≡ false → node_in wanted (nodes_of (take (suc i) ns)) ≡ None
without_next wanted [] i n within is before here = absurd (omega arith)
without_next wanted (m ∷ ms) zero n within is before here =
    ap (λ o. option_or o (node_in wanted (nodes_of (take 0 ms)))) (ap (node_at wanted) (sym is) ∙ absent (node_at wanted n) here)
without_next wanted (m ∷ ms) (suc i) n within is before here =
    let both = neither (node_at wanted m) (node_in wanted (nodes_of (take i ms))) before in
    ap (λ o. option_or o (node_in wanted (nodes_of (take (suc i) ms)))) both.0 ∙ without_next wanted ms i n (omega arith) is both.1 here

pub one_more_without : (wanted : ℕ) (ns : List PlainNode) (i : ℕ) (n : PlainNode) → i < length ns → n ≡ get_or ns i n
    → node_in wanted (nodes_of (take i ns)) ≡ None → is_there wanted n ≡ false → node_in wanted (nodes_of (take (i + 1) ns)) ≡ None
one_more_without wanted ns i n within is before here =
    let next : i + 1 ≡ suc i = omega arith in
    ap (λ k. node_in wanted (nodes_of (take k ns))) next ∙ without_next wanted ns i n within is before here

-- the first node with a number is changed at its place in the list
pub changed_here : (f : PlainNode → PlainNode) (wanted : ℕ) (ns : List PlainNode) (i : ℕ) (n m : PlainNode) → i < length ns → n ≡ get_or ns i n
    → node_in wanted (nodes_of (take i ns)) ≡ None → is_there wanted n ≡ true → m ≡ changed_at f wanted n
    → nodes_of (set ns i m) ≡ changed_in f wanted (nodes_of ns)
changed_here f wanted [] i n m within is before here is_m = absurd (omega arith)
changed_here f wanted (x ∷ xs) zero n m within is before here is_m =
    sym (
    ap (λ t. if t then more_nodes (changed_at f wanted x) (nodes_of xs) else more_nodes x (changed_in f wanted (nodes_of xs))) (ap (is_there wanted) (sym is) ∙ here)
    ∙ ap (λ y. more_nodes y (nodes_of xs)) (ap (changed_at f wanted) (sym is) ∙ sym is_m)
    )
changed_here f wanted (x ∷ xs) (suc i) n m within is before here is_m =
    let both = neither (node_at wanted x) (node_in wanted (nodes_of (take i xs))) before in
    ap (more_nodes x) (changed_here f wanted xs i n m (omega arith) is both.1 here is_m)
    ∙ sym (ap (λ t. if t then more_nodes (changed_at f wanted x) (nodes_of xs) else more_nodes x (changed_in f wanted (nodes_of xs))) (ap is_some both.0))

-- and the list has it
pub there_here : (wanted : ℕ) (ns : List PlainNode) (i : ℕ) (n : PlainNode) → i < length ns → n ≡ get_or ns i n
    → node_in wanted (nodes_of (take i ns)) ≡ None → is_there wanted n ≡ true → is_there_in wanted (nodes_of ns) ≡ true
there_here wanted [] i n within is before here = absurd (omega arith)
there_here wanted (x ∷ xs) zero n within is before here = first_there (node_at wanted x) (node_in wanted (nodes_of xs)) (ap (is_there wanted) (sym is) ∙ here)
there_here wanted (x ∷ xs) (suc i) n within is before here =
    let both = neither (node_at wanted x) (node_in wanted (nodes_of (take i xs))) before in
    ap (λ o. is_some (option_or o (node_in wanted (nodes_of xs)))) both.0 ∙ there_here wanted xs i n (omega arith) is both.1 here

-- a tree without a node of a number stays as it is; first by whether the node itself has the number
by_number : (own : Bool) (f : PlainNode → PlainNode) (wanted number : ℕ) (w : PlainWidget) (fs : List Value) (s i : ℕ) (ns : PlainNodes)
    → (is_there_in wanted ns ≡ false → changed_in f wanted ns ≡ ns)
    → is_some (if own then Some (node number w fs s i ns) else node_in wanted ns) ≡ false
    → (if own then f (node number w fs s i ns) else node number w fs s i (changed_in f wanted ns)) ≡ node number w fs s i ns
by_number true f wanted number w fs s i ns below missing = cc
by_number false f wanted number w fs s i ns below missing = ap (node number w fs s i) (below missing)

mutual
  pub unchanged : (f : PlainNode → PlainNode) (wanted : ℕ) (n : PlainNode) → is_there wanted n ≡ false → changed_at f wanted n ≡ n
  unchanged f wanted (node number w fs s i ns) missing = by_number (number == wanted) f wanted number w fs s i ns (unchanged_in f wanted ns) missing

  pub unchanged_in : (f : PlainNode → PlainNode) (wanted : ℕ) (ns : PlainNodes) → is_there_in wanted ns ≡ false → changed_in f wanted ns ≡ ns
  unchanged_in f wanted no_nodes missing = refl
  unchanged_in f wanted (more_nodes n ns) missing =
      let both = neither (node_at wanted n) (node_in wanted ns) (absent (option_or (node_at wanted n) (node_in wanted ns)) missing) in
      ap (λ t. if t then more_nodes (changed_at f wanted n) ns else more_nodes n (changed_in f wanted ns)) (ap is_some both.0)
      ∙ ap (more_nodes n) (unchanged_in f wanted ns (ap is_some both.1))

-- what a change leaves, by whether it was handed back
pub either_way : (f : PlainNode → PlainNode) (wanted : ℕ) (old new : PlainNode) (x : Change) (r : Option Change) → IfNone r (new ≡ changed_at f wanted old)
    → IfSome r (λ back. (is_there wanted old ≡ false) × (back ≡ x) × (new ≡ old)) → new ≡ changed_at f wanted old
either_way f wanted old new x None changed missing = changed
either_way f wanted old new x (Some back) changed missing = missing.2 ∙ sym (unchanged f wanted old missing.0)
