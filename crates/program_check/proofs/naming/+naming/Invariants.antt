use Rattle.std.proofs.Common.{map, drop}
use Rattle.fx_expr.specs.Places.{LeftToAdd}
use Rattle.program_check.specs.Body.{members_in, bodies_in}
use Rattle.program_check.specs.BodyView.{plain_body, plain_members}
use Rattle.program_check.specs.Decl.{reads_in_members, reads_in_bodies}
use Rattle.program_check.proofs.naming.+naming.Given as goal

abbrev pub invariant-add_in_members-loop-member : goal.invariant-add_in_members-loop-member
invariant-add_in_members-loop-member l =
    LeftToAdd (λ i ms. reads_in_members i (members_in (plain_members ms))) l.initial.places.items l.places.items l.members (drop l.member-index l.members)

abbrev pub invariant-add_in_bodies-loop-body : goal.invariant-add_in_bodies-loop-body
invariant-add_in_bodies-loop-body l =
    LeftToAdd (λ i bs. reads_in_bodies i (bodies_in (map plain_body bs))) l.initial.places.items l.places.items l.bodies (drop l.body-index l.bodies)
