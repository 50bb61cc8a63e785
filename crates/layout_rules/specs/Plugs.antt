-- What a layout leaves of whether delegates are plugged.
use Rattle.std.specs.Prelude.{◌≡◌, ◌⊎◌, Option, Some, None, List}
use Rattle.fx_handles.specs.declared.Handle.{Handle}
use Rattle.delegates.specs.Table.{Plug}
use Rattle.node_tree.specs.Forest.{TreeNode}
use Rattle.node_tree.specs.Tree.{Tree}
use Rattle.layout_form.specs.Layout.{is_plugged, delegate_of}
use Rattle.render_tree.specs.Object.{RenderObject, object_look}
use Rattle.render_tree.specs.Tree.{object_at}
use Rattle.layout_walk.specs.Node.{LayoutNode}
use Rattle.layout_rules.specs.Nodes.{seen_at}
use Rattle.layout_rules.specs.Reads.{state_at}

-- each node is there as before, and remembers what it did, or whether its delegate is plugged now
abbrev pub IsPlugged : List Plug → Option (TreeNode LayoutNode) → Option (TreeNode LayoutNode) → Type 0
IsPlugged ds None None = Unit {0}
IsPlugged ds None (Some w) = ⊥
IsPlugged ds (Some v) None = ⊥
IsPlugged ds (Some v) (Some w) = (v.value.look ≡ w.value.look) × ((w.value.plugged ≡ v.value.plugged) ⊎ (w.value.plugged ≡ is_plugged ds (delegate_of w.value.look)))

abbrev pub ArePlugged : List Plug → Tree RenderObject → Tree RenderObject → Type 0
ArePlugged ds old new = (k : Handle) → IsPlugged ds (seen_at old k) (seen_at new k)

-- the same of render nodes
abbrev pub KeepsPlugs : List Plug → Tree RenderObject → Tree RenderObject → Type 0
KeepsPlugs ds old new = (k : Handle) (w : RenderObject) → object_at new k ≡ Some w → (w.plugged ≡ (state_at old k).plugged) ⊎ (w.plugged ≡ is_plugged ds (delegate_of (object_look w)))
