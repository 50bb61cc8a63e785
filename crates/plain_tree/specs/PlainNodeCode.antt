-- Nodes as trees of numbers, by which a proof tells them apart.
use Rattle.std.specs.Prelude.{◌≡◌, List}
use Rattle.std.proofs.Common.{ap, refl, sym, subst}
use base.Stored.{Gv, gnil, gcons, Coded, coded_ℕ, coded_list}
use Rattle.fx_expr.specs.declared.values.Value.{Value}
use Rattle.fx_expr.specs.contracts.values.Value as value
use Rattle.fx_expr.specs.ExpCode.{first_part, other_parts, IsPair}
use Rattle.widget_model.specs.PlainCode.{widget_code, widget_inj}
use Rattle.plain_tree.specs.PlainNode.{PlainNode, node, PlainNodes, no_nodes, more_nodes}

abbrev pub coded_values : Coded (List Value)
coded_values = coded_list (value.the_row).coded

abbrev mutual
  pub node_code : PlainNode → Gv
  node_code (node n w fs s i cs) =
      gcons (coded_ℕ.code n) (gcons (widget_code w) (gcons (coded_values.code fs) (gcons (coded_ℕ.code s) (gcons (coded_ℕ.code i) (nodes_code cs)))))

  pub nodes_code : PlainNodes → Gv
  nodes_code no_nodes = gnil
  nodes_code (more_nodes n ns) = gcons (node_code n) (nodes_code ns)

mutual
  pub node_inj : (a b : PlainNode) → node_code a ≡ node_code b → a ≡ b
  node_inj (node n w fs s i cs) (node m v gs t j ds) p = λ at.
      node (coded_ℕ.inj n m (ap first_part p) at)
      (widget_inj w v (ap (λ g. first_part (other_parts g)) p) at)
      (coded_values.inj fs gs (ap (λ g. first_part (other_parts (other_parts g))) p) at)
      (coded_ℕ.inj s t (ap (λ g. first_part (other_parts (other_parts (other_parts g)))) p) at)
      (coded_ℕ.inj i j (ap (λ g. first_part (other_parts (other_parts (other_parts (other_parts g))))) p) at)
      (nodes_inj cs ds (ap (λ g. other_parts (other_parts (other_parts (other_parts (other_parts g))))) p) at)

  pub nodes_inj : (a b : PlainNodes) → nodes_code a ≡ nodes_code b → a ≡ b
  nodes_inj no_nodes no_nodes p = refl
  nodes_inj (more_nodes n ns) (more_nodes m ms) p = λ at. more_nodes (node_inj n m (ap first_part p) at) (nodes_inj ns ms (ap other_parts p) at)
  nodes_inj no_nodes (more_nodes m ms) p = absurd (subst IsPair (sym p) tt)
  nodes_inj (more_nodes n ns) no_nodes p = absurd (subst IsPair p tt)

abbrev pub coded_node : Coded PlainNode
coded_node = record { code = node_code; inj = node_inj }
