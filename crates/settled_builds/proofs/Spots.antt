-- Spots of nodes.
use Rattle.std.proofs.Common.{◌≡◌, ℕ, zero, suc, ◌+◌, ◌==◌, Bool, true, false, cond, is_some, Option, Some, None, option_map, List, refl, sym, ap, ◌∙◌}
use Rattle.std.specs.Option.{option_or}
use Rattle.fx_expr.specs.declared.values.Value.{Value}
use Rattle.plain_tree.specs.At.{is_there, node_at, node_in}
use Rattle.plain_tree.specs.PlainNode.{PlainNode, node, PlainNodes, no_nodes, more_nodes, count_of, counts_of}
use Rattle.build_form.specs.Entering.{values_below}
use Rattle.settled_builds.specs.Places.{NodePlace, spot_at, spot_in}
use Rattle.settled_builds.specs.Taken.{AskedIf}

-- there is one

abbrev pub Stands : Option NodePlace → Type 0
Stands o = (p : NodePlace) × (o ≡ Some p)

pub stands_here : (here : Bool) (X Y : Type 0) (q : NodePlace) (o : Option NodePlace) → AskedIf here X Y → (Y → Stands o) → Stands (cond here (Some q) o)
stands_here true X Y q o h step = (q, refl)
stands_here false X Y q o h step = step h

pub stands_in : (there : Bool) (X Y : Type 0) (u v : Option NodePlace) → AskedIf there X Y → (X → Stands u) → (Y → Stands v) → Stands (cond there u v)
stands_in true X Y u v h one rest = one h
stands_in false X Y u v h one rest = rest h

-- the node at a spot is the one with the number

module _ (wanted : ℕ) (p : NodePlace) where
  no_spot : None ≡ Some p → ⊥
  no_spot e = cc

  there_by : (here : Bool) (n : PlainNode) (q : NodePlace) (o : Option NodePlace) (x : Option PlainNode) → q.node ≡ n → (o ≡ Some p → x ≡ Some p.node) → cond here (Some q) o ≡ Some p → cond here (Some n) x ≡ Some p.node
  there_by true n q o x same step at = ap (λ (m : PlainNode). Some m) (sym same) ∙ ap (option_map (λ (r : NodePlace). r.node)) at
  there_by false n q o x same step at = step at

  none : (x : Option PlainNode) → is_some x ≡ false → x ≡ None
  none None e = refl
  none (Some n) e = cc

  there_in : (there : Bool) (x y : Option PlainNode) (u v : Option NodePlace) → is_some x ≡ there → (u ≡ Some p → x ≡ Some p.node) → (v ≡ Some p → y ≡ Some p.node) → cond there u v ≡ Some p → option_or x y ≡ Some p.node
  there_in true x y u v is one rest at = ap (λ (o : Option PlainNode). option_or o y) (one at)
  there_in false x y u v is one rest at = ap (λ (o : Option PlainNode). option_or o y) (none x is) ∙ rest at

  mutual
    pub spot_is_there : (left : ℕ) (values : List Value) (before behind : ℕ) (n : PlainNode) → spot_at wanted left values before behind n ≡ Some p → node_at wanted n ≡ Some p.node
    spot_is_there zero values before behind (node number w fs s i ns) at = absurd (no_spot at)
    spot_is_there (suc left) values before behind (node number w fs s i ns) at =
        there_by (number == wanted) (node number w fs s i ns) (record { node = node number w fs s i ns; left = suc left; values = values; before = before; after = behind })
        (spot_in wanted left (values_below w values) (suc before) behind ns) (node_in wanted ns) refl (λ h. spot_in_there left (values_below w values) (suc before) behind ns h) at

    spot_in_there : (left : ℕ) (values : List Value) (before behind : ℕ) (ns : PlainNodes) → spot_in wanted left values before behind ns ≡ Some p → node_in wanted ns ≡ Some p.node
    spot_in_there left values before behind no_nodes at = absurd (no_spot at)
    spot_in_there left values before behind (more_nodes n ns) at =
        there_in (is_there wanted n) (node_at wanted n) (node_in wanted ns) (spot_at wanted left values before (behind + counts_of ns) n) (spot_in wanted left values (before + count_of n) behind ns) refl
        (λ h. spot_is_there left values before (behind + counts_of ns) n h) (λ h. spot_in_there left values (before + count_of n) behind ns h) at
