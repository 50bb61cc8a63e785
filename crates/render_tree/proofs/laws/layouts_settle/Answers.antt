use Rattle.render_tree.proofs.LayoutParts.{layouts_settled, layouts_closed, layouts_linked}
use Rattle.render_tree.proofs.laws.layouts_settle.Goals as goal

pub returns-clause-settled : goal.returns-clause-settled
returns-clause-settled c = layouts_settled

pub returns-clause-closed : goal.returns-clause-closed
returns-clause-closed c = layouts_closed

pub returns-clause-linked : goal.returns-clause-linked
returns-clause-linked c = layouts_linked
