-- How many nodes a call is given, and what is done so far.
use Rattle.std.proofs.Common.{◌≡◌, ◌+◌, ◌≤◌, length}
use Rattle.delegates.specs.Table.{meant_in}
use Rattle.node_tree.specs.Forest.{size}
use Rattle.node_tree.specs.Tree.{subtree_at, children_at}
use Rattle.layout_form.specs.Object.{setting_of}
use Rattle.kind_rules.specs.Few.{items_of}
use Rattle.layout_rules.specs.Duties.{lay_duties}
use Rattle.layout_rules.specs.Courses.{first_duties}
use Rattle.layout_rules.specs.Flags.{FlagsListed}
use Rattle.layout_rules.specs.Plugs.{ArePlugged}
use Rattle.layout_rules.specs.Painting.{Leaves}
use Rattle.layout_rules.proofs.Listed.{Listed}
use Rattle.layout_rules.proofs.Walking.{Progress}
use Rattle.layout_rules.proofs.walk.+serve.Given as goal

abbrev pub decreases-serve : goal.decreases-serve
decreases-serve g l = size (subtree_at l.r.now.tree l.h)

abbrev pub invariant-loop-i : goal.invariant-loop-i
invariant-loop-i g l =
    Progress (setting_of l.initial.r.scale (meant_in l.table (λ v. (g.dyn-1.0.entry v).1))) l.outer l.initial.r.tree l.r.tree l.h l.i l.i-end
    (first_duties l.course (items_of l.first) (children_at l.initial.r.tree l.h)) l.initial.steps l.steps
    × (l.r.scale ≡ l.initial.r.scale) × (l.r.spent ≡ l.initial.r.spent)
    × Leaves l.initial.r.tree l.r.tree l.h l.initial.changed.items l.changed.items
    × (length l.changed.items + l.initial.steps ≤ length l.initial.changed.items + l.steps)
    × Listed (setting_of l.initial.r.scale (meant_in l.table (λ v. (g.dyn-1.0.entry v).1))) l.outer l.initial.r.tree l.h l.i (first_duties l.course (items_of l.first) (children_at l.initial.r.tree l.h))
    l.initial.changed.items l.changed.items
    × FlagsListed l.initial.r.tree l.r.tree l.initial.changed.items l.changed.items
    × ArePlugged (meant_in l.table (λ v. (g.dyn-1.0.entry v).1)) l.initial.r.tree l.r.tree

abbrev pub invariant-loop-i-2 : goal.invariant-loop-i-2
invariant-loop-i-2 g l =
    Progress (setting_of l.initial.r.scale (meant_in l.table (λ v. (g.dyn-1.0.entry v).1))) l.outer l.initial.r.tree l.r.tree l.h l.i l.i-end
    (lay_duties (items_of l.rest)) l.initial.steps l.steps
    × (l.r.scale ≡ l.initial.r.scale) × (l.r.spent ≡ l.initial.r.spent)
    × Leaves l.initial.r.tree l.r.tree l.h l.initial.changed.items l.changed.items
    × (length l.changed.items + l.initial.steps ≤ length l.initial.changed.items + l.steps)
    × Listed (setting_of l.initial.r.scale (meant_in l.table (λ v. (g.dyn-1.0.entry v).1))) l.outer l.initial.r.tree l.h l.i (lay_duties (items_of l.rest)) l.initial.changed.items l.changed.items
    × FlagsListed l.initial.r.tree l.r.tree l.initial.changed.items l.changed.items
    × ArePlugged (meant_in l.table (λ v. (g.dyn-1.0.entry v).1)) l.initial.r.tree l.r.tree
