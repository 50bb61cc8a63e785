use Rattle.kind_rules.proofs.OneChild.{some_long}
use Rattle.kind_rules.proofs.single.single_made.Goals as goal

pub around_size-size-requires : goal.around_size-size-requires
around_size-size-requires g c = some_long c.args.child c.requires.child
