use Rattle.std.proofs.Common.{◌≡◌, drop}
use Rattle.program_check.specs.Body.{members_in, members_in_body}
use Rattle.program_check.specs.BodyView.{plain_body, plain_members}
use Rattle.template_build.specs.Building.{holder_in}
use Rattle.template_build.proofs.parts.holder.Given as goal

abbrev pub invariant-loop-i : goal.invariant-loop-i
invariant-loop-i l = holder_in (members_in_body (plain_body l.body)) ≡ holder_in (members_in (plain_members (drop l.i l.body.members.items)))
