use Rattle.std.proofs.Common.{arith, None, ap, sym, ◌∙◌}
use Rattle.std.proofs.lemmas.List.{set_past}
use Rattle.program_check.specs.JudgedView.{member_of}
use Rattle.program_check.specs.Depth.{member_depth_of}
use Rattle.program_check.proofs.PartLemmas.{part_at-none, part_at-there, member_depth-there}
use Rattle.program_check.proofs.members.take.Goals as goal

pub returns-then-place-len-clause-taken : goal.returns-then-place-len-clause-taken
returns-then-place-len-clause-taken c = sym (part_at-none c.args.members.now.items c.args.place (omega arith))

pub returns-then-place-len-clause-others : goal.returns-then-place-len-clause-others
returns-then-place-len-clause-others c = sym (set_past c.args.members.now.items c.args.place None (omega arith))

pub returns-clause-taken : goal.returns-clause-taken
returns-clause-taken c =
    ap member_of c.replace.ensures.value
    ∙ part_at-there c.args.members.now.items c.args.place c.index_mut.result.now (omega arith) c.index_mut.ensures.value

pub returns-clause-depth : goal.returns-clause-depth
returns-clause-depth c =
    let there = member_depth-there c.args.members.now.items c.args.place c.index_mut.result.now (omega arith) c.index_mut.ensures.value in
    omega (arith, there, ap member_depth_of c.replace.ensures.value)
