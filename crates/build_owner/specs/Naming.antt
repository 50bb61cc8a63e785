-- Which elements are recorded for their global keys while a walk goes on.
use Rattle.std.specs.Prelude.{◌≡◌, true, Some, List}
use Rattle.std.specs.List.{All}
use Rattle.fx_expr.specs.declared.values.Value.{Value}
use Rattle.fx_handles.specs.declared.Handle.{Handle}
use Rattle.node_tree.specs.Tree.{Tree, IsNode}
use Rattle.element_tree.specs.Element.{Element}
use Rattle.global_keys.specs.Holders.{Registry, is_met, holder_of}
use Rattle.global_keys.specs.Named.{global_at}

-- an element that is there, which is recorded for its global key, if it has one, and that key was met
pub record HoldsItsKey (g : Registry) (t : Tree Element) (h : Handle) : Type 0 where
  pub live : IsNode t h
  pub named : (k : Value) → global_at t h ≡ Some k → holder_of g k ≡ Some h
  pub met : (k : Value) → global_at t h ≡ Some k → is_met g k ≡ true

-- each element that is recorded for a key has it; and these elements, which were entered so far, are recorded for theirs
pub record AreHeld (g : Registry) (t : Tree Element) (hs : List Handle) : Type 0 where
  pub to_element : (k : Value) (h : Handle) → holder_of g k ≡ Some h → global_at t h ≡ Some k
  pub held : All (HoldsItsKey g t) hs
