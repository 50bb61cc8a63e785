-- Which lazy lists have to be laid out: an outer walk leaves one so that it laid out without its items.
use Rattle.std.specs.Prelude.{ℕ, ◌+◌, ◌≤◌, Bool, ◌&&◌, if◌then◌else◌, Option, Some, None, List}
use Rattle.fx_handles.specs.declared.Handle.{Handle}
use Rattle.fx_handles.specs.Handle.{times}
use Rattle.node_tree.specs.Forest.{TreeNode, Forest}
use Rattle.node_tree.specs.Forest.Forest.{none, tree}
use Rattle.node_tree.specs.Tree.{Tree}
use Rattle.render_tree.specs.Object.{RenderObject}
use Rattle.layout_walk.specs.Node.{LayoutNode}
use Rattle.layout_walk.specs.Rule.{LayoutParts}
use Rattle.layout_walk.specs.Rules.{is_list}
use Rattle.layout_rules.specs.declared.duties.Duty.{Duty}
use Rattle.layout_rules.specs.Duties.{duty_runs}
use Rattle.layout_rules.specs.Nodes.{seen_at, SeenAt}
use Rattle.layout_rules.specs.Serving.{weight_of}

-- a lazy list that has to be laid out counts once, and any other node not at all
abbrev pub list_flag : LayoutNode → ℕ
list_flag v = if v.needs_layout && is_list v.look then 1 else 0

abbrev pub flag_in : Option (TreeNode LayoutNode) → ℕ
flag_in None = 0
flag_in (Some n) = list_flag n.value

abbrev pub flag_at : Tree RenderObject → Handle → ℕ
flag_at t k = flag_in (seen_at t k)

-- a list that has to be laid out, and hadn't to, is listed
abbrev pub FlagsListed : Tree RenderObject → Tree RenderObject → List Handle → List Handle → Type 0
FlagsListed old new before after = (k : Handle) → flag_at new k + times k before ≤ flag_at old k + times k after

-- and its rule was run
abbrev pub FlagsRun : LayoutParts → Bool → Duty → Tree RenderObject → Tree RenderObject → Handle → Type 0
FlagsRun P outer duty old new h = (k : Handle) (v : LayoutNode) (kids : Forest LayoutNode) → SeenAt old h (tree h v kids none)
    → flag_at new k ≤ flag_at old k + duty_runs (weight_of k) (weight_of k h) P outer duty v kids
