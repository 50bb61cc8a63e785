-- What a walk finds of the last frame, and what of it stays as it is while the walk goes on.
use Rattle.std.specs.Prelude.{◌≡◌, ℕ, ◌+◌, ◌≤◌, false, Option, Some, List}
use Rattle.std.specs.List.{All}
use Rattle.fx_expr.specs.declared.values.Value.{Value}
use Rattle.fx_handles.specs.declared.Handle.{Handle}
use Rattle.node_tree.specs.Children.{Keeps}
use Rattle.node_tree.specs.Tree.{Tree, IsTree, tops_at}
use Rattle.build_form.specs.Entering.{Blueprint, Basis}
use Rattle.element_tree.specs.Element.{Element, made_count}
use Rattle.global_keys.specs.Holders.{Registry, is_met, holder_of}
use Rattle.global_keys.specs.Named.{global_at}
use Rattle.render_tree.specs.Object.{RenderObject}
use Rattle.build_walk.specs.Kept.{plain_at_any, IsOldElement}
use Rattle.build_walk.specs.Past.{Pasts}

-- the elements and render nodes as they stood when the frame began, how far the node with each number was scrolled, what is known of
-- numbers, and the element that had each global key
pub record LastFrame : Type 0 where
  pub elements : Tree Element
  pub renders : Tree RenderObject
  pub scrolled : ℕ → ℕ
  pub pasts : Pasts
  pub holders : Value → Option Handle

-- a walk may go on from an old element, which stood where the inherited names had these values
abbrev pub IsOld : LastFrame → List Value → Handle → Type 0
IsOld f olds h = IsOldElement f.pasts f.scrolled olds f.elements f.renders h

-- a walk that has come to these trees and this registry went on from this frame: it has added to the trees alone; it has left the
-- holder of each key that it hasn't met; and a number that isn't given yet belongs to no node that is scrolled
pub record IsSince (defaults : List Value) (f : LastFrame) (t : Tree Element) (r : Tree RenderObject) (g : Registry) : Type 0 where
  pub tree : IsTree f.elements
  pub old : All (IsOld f defaults) (tops_at f.elements)
  pub named : (k : Value) (h : Handle) → f.holders k ≡ Some h → global_at f.elements h ≡ Some k
  pub elements : Keeps f.elements t
  pub renders : Keeps f.renders r
  pub holders : (k : Value) → is_met g k ≡ false → holder_of g k ≡ f.holders k
  pub fresh : (n : ℕ) → made_count t + 1 ≤ n → f.scrolled n ≡ 0

-- what the definition's walk goes on from
abbrev pub basis_in : Blueprint → LastFrame → Basis
basis_in b f = record { program = b; holder = λ k. plain_at_any f.scrolled f.elements (f.holders k) }
