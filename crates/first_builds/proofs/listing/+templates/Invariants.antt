-- What is left has no lazy list exactly where the whole has none.
use Rattle.std.proofs.Common.{◌↔◌, drop}
use Rattle.first_builds.proofs.Listless.{MembersAreListless, BodiesAreListless}
use Rattle.first_builds.proofs.listing.+templates.Given as goal

abbrev pub invariant-are_listless_members-loop-member : goal.invariant-are_listless_members-loop-member
invariant-are_listless_members-loop-member l = MembersAreListless (drop l.member-index l.members) ↔ MembersAreListless l.members

abbrev pub invariant-are_listless_bodies-loop-body : goal.invariant-are_listless_bodies-loop-body
invariant-are_listless_bodies-loop-body l = BodiesAreListless (drop l.body-index l.bodies) ↔ BodiesAreListless l.bodies
