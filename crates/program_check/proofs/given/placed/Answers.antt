use Rattle.program_check.proofs.GivenLemmas.{placed-more}
use Rattle.program_check.proofs.given.placed.Goals as goal

pub loop-place-preserved : goal.loop-place-preserved
loop-place-preserved g c =
    placed-more c.args.count c.args.given.items c.loop-place.given.items c.pop.new.self.items (c.in-Some.place, c.in-Some.found) c.loop-place.table.items
    c.put.new.table.items c.loop-place.invariant c.in-Some.ensures.items c.put.ensures
