use Rattle.program_check.proofs.GivenLemmas.{blank-more}
use Rattle.program_check.proofs.given.blank.Goals as goal

pub loop-place-preserved : goal.loop-place-preserved
loop-place-preserved g c = blank-more c.loop-place._place c.loop-place.table.items c.push.new.self.items c.loop-place.invariant c.in_ok-push.ensures.items
