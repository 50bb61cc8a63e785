-- The state of a node names the node.
use Rattle.std.proofs.Common.{◌≡◌, ℕ, List, [], ◌∷◌}
use Rattle.fx_expr.specs.declared.values.Value.{Value}
use Rattle.plain_tree.specs.PlainNode.{PlainNode, node, number_of}
use Rattle.plain_tree.specs.States.{State, holding, scrolled, state_of, own_state}
use Rattle.widget_model.specs.declared.decl.Decl.{Decl}
use Rattle.widget_model.specs.Look.{Look, viewport, component}
use Rattle.widget_model.specs.Plain.{look_of}

scrolled_at : (look : Look) (number scroll : ℕ) (fields : List Value) (k offset : ℕ) (more : List State) → state_of look number fields scroll ≡ scrolled k offset ∷ more → number ≡ k
scrolled_at (viewport axis) number scroll fields k offset more e = cc
scrolled_at (component place props d) number scroll [] k offset more e = cc
scrolled_at (component place props d) number scroll (x ∷ xs) k offset more e = cc
scrolled_at _ number scroll fields k offset more e = cc

pub number_scrolled : (n : PlainNode) (k offset : ℕ) (more : List State) → own_state n ≡ scrolled k offset ∷ more → number_of n ≡ k
number_scrolled (node number w fields scroll index ns) k offset more e = scrolled_at (look_of w) number scroll fields k offset more e

held_at : (look : Look) (number scroll : ℕ) (fields : List Value) (k : ℕ) (d : Decl) (vs : List Value) (more : List State) → state_of look number fields scroll ≡ holding k d vs ∷ more → number ≡ k
held_at (viewport axis) number scroll fields k d vs more e = cc
held_at (component place props x) number scroll [] k d vs more e = cc
held_at (component place props x) number scroll (v ∷ ws) k d vs more e = cc
held_at _ number scroll fields k d vs more e = cc

pub number_held : (n : PlainNode) (k : ℕ) (d : Decl) (vs : List Value) (more : List State) → own_state n ≡ holding k d vs ∷ more → number_of n ≡ k
number_held (node number w fields scroll index ns) k d vs more e = held_at (look_of w) number scroll fields k d vs more e
