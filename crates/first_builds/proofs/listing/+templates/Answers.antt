use Rattle.std.proofs.Common.{sym, ◌∙◌, subst}
use Rattle.program_check.specs.declared.checked.BodyPart.{BodyPart}
use Rattle.first_builds.proofs.Listless.{told, told_not, untrue, MemberIsListless, MembersAreListless, members_opened, BodyIsListless, BodiesAreListless, bodies_opened, body_told, body_not, each_more, each_not, each_all}
use Rattle.program_check.specs.BodyView.{plain_body_part}
use Rattle.versioned_kinds.specs.Lists.{IsNoListKind}
use Rattle.versioned_kinds.specs.Templates.{BodyPartMeets}
use Rattle.first_builds.proofs.listing.+templates.Goals as goal
use Rattle.first_builds.proofs.listing.+templates.Goals.{are_listless_members-in-Some+else-not-is_listless_part, are_listless_members-in_default}

pub is_listless_body-returns-then-is_list_kind : goal.is_listless_body-returns-then-is_list_kind
is_listless_body-returns-then-is_list_kind t c = told_not (body_not c.args.body.now c.is_list_kind.result c.is_list_kind.ensures c.if-is_list_kind.true)

pub is_listless_body-returns : goal.is_listless_body-returns
is_listless_body-returns t c =
    body_told c.args.body.now c.as_slice.result.now c.are_listless_members.result c.as_slice.ensures.value (sym c.is_list_kind.ensures ∙ c.if-is_list_kind.false) c.are_listless_members.ensures

pub are_listless_members-returns-then-not-is_listless_part : goal.are_listless_members-returns-then-not-is_listless_part
are_listless_members-returns-then-not-is_listless_part t c =
    told_not (each_not MemberIsListless MembersAreListless members_opened (MembersAreListless c.args.members.now) c.args.members.now c.loop-member.member-index c.member-item.result c.loop-member-test.true c.member-item.is
    c.loop-member.invariant
    (λ h. untrue c.is_listless_part.result c.if-not-is_listless_part.true c.is_listless_part.ensures
    (subst (λ (p : BodyPart). BodyPartMeets IsNoListKind (plain_body_part p)) (sym c.deref.ensures) (subst MemberIsListless c.in-Some.is h))))

pub are_listless_members-loop-member-preserved : goal.are_listless_members-loop-member-preserved
are_listless_members-loop-member-preserved t c =
    each_more MemberIsListless MembersAreListless members_opened (MembersAreListless c.args.members.now) c.args.members.now c.loop-member.member-index c.member-item.result c.loop-member-test.true c.member-item.is
    c.loop-member.invariant
    (elim c.match-member.branch [
      | are_listless_members-in-Some+else-not-is_listless_part w ↦
          subst MemberIsListless (sym w.in-Some.is)
          (subst (λ (p : BodyPart). BodyPartMeets IsNoListKind (plain_body_part p)) w.deref.ensures (w.is_listless_part.ensures.0 w.if-not-is_listless_part.false))
      | are_listless_members-in_default w ↦ subst MemberIsListless (sym w.in_default.is) tt
    ])

pub are_listless_members-returns : goal.are_listless_members-returns
are_listless_members-returns t c =
    told (each_all MemberIsListless MembersAreListless members_opened (MembersAreListless c.args.members.now) c.args.members.now c.loop-member.member-index tt c.loop-member-test.false c.loop-member.invariant)

pub are_listless_bodies-returns-then-not-is_listless_body : goal.are_listless_bodies-returns-then-not-is_listless_body
are_listless_bodies-returns-then-not-is_listless_body t c =
    told_not (each_not BodyIsListless BodiesAreListless bodies_opened (BodiesAreListless c.args.bodies.now) c.args.bodies.now c.loop-body.body-index c.body-item.result c.loop-body-test.true c.body-item.is c.loop-body.invariant
    (untrue c.is_listless_body.result c.if-not-is_listless_body.true c.is_listless_body.ensures))

pub are_listless_bodies-loop-body-preserved : goal.are_listless_bodies-loop-body-preserved
are_listless_bodies-loop-body-preserved t c =
    each_more BodyIsListless BodiesAreListless bodies_opened (BodiesAreListless c.args.bodies.now) c.args.bodies.now c.loop-body.body-index c.body-item.result c.loop-body-test.true c.body-item.is c.loop-body.invariant
    (c.is_listless_body.ensures.0 c.if-not-is_listless_body.false)

pub are_listless_bodies-returns : goal.are_listless_bodies-returns
are_listless_bodies-returns t c =
    told (each_all BodyIsListless BodiesAreListless bodies_opened (BodiesAreListless c.args.bodies.now) c.args.bodies.now c.loop-body.body-index tt c.loop-body-test.false c.loop-body.invariant)
