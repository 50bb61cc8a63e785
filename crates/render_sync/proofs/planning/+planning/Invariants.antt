-- The first render nodes are planned.
use Rattle.std.proofs.Common.{◌+◌, ◌*◌, [], take}
use Rattle.std.specs.BTreeMap.{get}
use Rattle.std.specs.Ordering.{nat_cmp}
use Rattle.plain_tree.specs.Render.{count_of, counts_of, renders_of}
use Rattle.render_sync.specs.Synced.{Plans}
use Rattle.render_sync.proofs.planning.+planning.Given as goal

abbrev pub invariant-plan_nodes-loop-node : goal.invariant-plan_nodes-loop-node
invariant-plan_nodes-loop-node l = Plans (get nat_cmp l.numbers) l.parent (take l.node-index l.nodes) l.fn.plan.items l.plan.items [] l.tops.items

abbrev pub decreases-plan_node : goal.decreases-plan_node
decreases-plan_node l = 2 * count_of l.node.now

abbrev pub decreases-plan_nodes : goal.decreases-plan_nodes
decreases-plan_nodes l = 2 * counts_of (renders_of l.nodes.now) + 1
