-- What tells elements apart.
use Rattle.std.specs.Prelude.{◌≡◌, ℕ, Some}
use Rattle.fx_handles.specs.declared.Handle.{Handle}
use Rattle.node_tree.specs.Tree.{Tree}
use Rattle.element_tree.specs.Element.{Element, number_at}

-- no two elements have one number
abbrev pub NumbersOnce : Tree Element → Type 0
NumbersOnce t = (number : ℕ) (h k : Handle) → number_at t h ≡ Some number → number_at t k ≡ Some number → h ≡ k
