use Rattle.node_tree.proofs.PlanLemmas.{plan_of, plan_reordered}
use Rattle.node_tree.proofs.Children.{entries-append}
use Rattle.node_tree.proofs.PartTrees.{part_of_plan, beside_plan}
use Rattle.node_tree.proofs.Tree.plan_laws.Goals as goal

pub returns-clause-entries : goal.returns-clause-entries
returns-clause-entries g c = plan_of

pub returns-clause-order : goal.returns-clause-order
returns-clause-order g c = plan_reordered

pub returns-clause-joined : goal.returns-clause-joined
returns-clause-joined g c = entries-append

pub returns-clause-part : goal.returns-clause-part
returns-clause-part g c = part_of_plan g.U.Update.updated

pub returns-clause-beside : goal.returns-clause-beside
returns-clause-beside g c = beside_plan g.U.Update.updated
