use Rattle.kept_layers.proofs.Changing.{delegates_list}
use Rattle.kept_layers.proofs.Naming.{others_draw}
use Rattle.kept_layers.proofs.changes.other_delegates_are_listed.Goals as goal

pub returns-clause-lists : goal.returns-clause-lists
returns-clause-lists c = delegates_list

pub returns-clause-named : goal.returns-clause-named
returns-clause-named c = others_draw
