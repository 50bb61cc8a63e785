use Rattle.inherited.proofs.Flagging.{flag_set, flag_left}
use Rattle.inherited.proofs.readers.mark_if.Goals as goal

pub returns-then-not-on-clause-flags : goal.returns-then-not-on-clause-flags
returns-then-not-on-clause-flags c = flag_left _ c.args.h c.args.on c.if-not-on.true

pub returns-clause-flags : goal.returns-clause-flags
returns-clause-flags c = flag_set _ _ c.args.h c.args.on c.if-not-on.false c.mark_dirty.ensures.flag
