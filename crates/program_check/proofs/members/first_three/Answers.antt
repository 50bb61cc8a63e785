use Rattle.std.proofs.Common.{arith, ap}
use Rattle.program_check.specs.Depth.{parts_depth}
use Rattle.program_check.proofs.MemberLemmas.{depth-emptied, three-taken}
use Rattle.program_check.proofs.members.first_three.Goals as goal

pub returns-clause-parts : goal.returns-clause-parts
returns-clause-parts c =
    three-taken c.args.members.now.items c.take-first.new.members.items c.take-second.new.members.items _ _ _ c.take-first.ensures.taken
    c.take-first.ensures.others c.take-second.ensures.taken c.take-second.ensures.others c.take-third.ensures.taken

pub returns-clause-depth : goal.returns-clause-depth
returns-clause-depth c =
    let one = ap parts_depth c.take-first.ensures.others in
    let two = ap parts_depth c.take-second.ensures.others in
    omega (
      arith,
      c.take-first.ensures.depth,
      c.take-second.ensures.depth,
      c.take-third.ensures.depth,
      one,
      two,
      depth-emptied c.args.members.now.items 0,
      depth-emptied c.take-first.new.members.items 1,
    )
