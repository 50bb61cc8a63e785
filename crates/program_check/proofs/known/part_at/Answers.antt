use Rattle.std.proofs.Common.{◌≤◌, ap, subst, sym, ◌∙◌}
use Rattle.program_check.specs.Depth.{part_depth_of, parts_depth}
use Rattle.program_check.specs.JudgedView.{member_of}
use Rattle.program_check.proofs.PartLemmas.{part_at-none, part_at-there, depth-there}
use Rattle.program_check.proofs.known.part_at.Goals as goal

pub returns-then-place-members-clause-answer : goal.returns-then-place-members-clause-answer
returns-then-place-members-clause-answer c = sym (part_at-none c.args.members.now c.args.place c.if-place-members.true)

pub returns-in-None-clause-answer : goal.returns-in-None-clause-answer
returns-in-None-clause-answer c =
    ap member_of (sym c.in-None.is) ∙ part_at-there c.args.members.now c.args.place c.index-members-place.result c.if-place-members.false c.index-members-place.is

pub returns-in-Some-clause-depth : goal.returns-in-Some-clause-depth
returns-in-Some-clause-depth c =
    subst (λ p. part_depth_of p ≤ parts_depth c.args.members.now) (sym c.deref.ensures)
    (depth-there c.args.members.now c.args.place c.index-members-place.result c.in-Some.part c.if-place-members.false c.index-members-place.is c.in-Some.is)
