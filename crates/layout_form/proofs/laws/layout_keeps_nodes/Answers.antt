use Rattle.layout_form.proofs.Keeps.{object_stands}
use Rattle.layout_form.proofs.laws.layout_keeps_nodes.Goals as goal

pub returns-clause-boxes : goal.returns-clause-boxes
returns-clause-boxes c s r = (object_stands s r).boxes

pub returns-clause-slivers : goal.returns-clause-slivers
returns-clause-slivers c s r = (object_stands s r).views
