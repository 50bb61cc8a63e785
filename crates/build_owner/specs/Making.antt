-- What a walk makes in the tree of render nodes.
use Rattle.std.specs.Prelude.{◌≡◌, ℕ, ◌+◌, ◌<◌, ◌≤◌, Option, None, Some, []}
use Rattle.fx_handles.specs.Arena.{inserted_count}
use Rattle.fx_handles.specs.declared.Handle.{Handle}
use Rattle.node_tree.specs.Forest.{TreeNode}
use Rattle.node_tree.specs.Tree.{Tree, node_at}
use Rattle.widget_model.specs.Plain.{PlainWidget}
use Rattle.element_tree.specs.Element.{Element, number_at, made_count}
use Rattle.render_tree.specs.Edits.{new_object}
use Rattle.render_tree.specs.Object.{RenderObject}

-- each node that wasn't there is a new one, which stands in no list, and has one of the numbers after the first one up to the second one;
-- no two have one number, no more are made than there are such numbers, and the root is the same
pub record MakesNodes (low high : ℕ) (old new : Tree RenderObject) : Type 0 where
  pub fresh : (k : Handle) (n : TreeNode RenderObject) → node_at old k ≡ None → node_at new k ≡ Some n
      → (number : ℕ) × (widget : PlainWidget) × (n ≡ record { parent = None; children = []; value = new_object number widget }) × (low < number) × (number ≤ high)
  pub once : (j k : Handle) (m n : TreeNode RenderObject) → node_at old j ≡ None → node_at old k ≡ None → node_at new j ≡ Some m → node_at new k ≡ Some n → m.value.number ≡ n.value.number → j ≡ k
  pub grows : low ≤ high
  pub few : inserted_count new.nodes + low ≤ inserted_count old.nodes + high
  pub root : new.root ≡ old.root

-- an element, which goes on from an old one or none, was made if there is no old one: it has the last number that was given, which is
-- after this one
pub record MakesElement (low : ℕ) (t : Tree Element) (at : Handle) (partner : Option Handle) : Type 0 where
  pub grows : low ≤ made_count t
  pub new : partner ≡ None → (number_at t at ≡ Some (made_count t)) × (low < made_count t)
