use Rattle.std.proofs.Common.{◌≡◌, ◌≤◌, suc, arith, Some, ap, sym, ◌∙◌}
use Rattle.program_check.specs.Body.{members_in, part_at, body_depth, members_depth, part_depth}
use Rattle.program_check.specs.BodyView.{plain_body, plain_body_part, plain_body_member, plain_members}
use Rattle.program_check.proofs.BodyLemmas.{members_in_body-out, body_depth-out, part_past, part_there, part-depth}
use Rattle.program_check.proofs.checked.Body.part.Goals as goal

pub returns-then-place-members-clause-part : goal.returns-then-place-members-clause-part
returns-then-place-members-clause-part c =
    part_past c.as_slice-members.result.now c.args.place c.if-place-members.true
    ∙ ap (λ ms. part_at (members_in (plain_members ms)) c.args.place) c.as_slice-members.ensures.value
    ∙ sym (ap (λ ms. part_at ms c.args.place) (members_in_body-out c.args.self.now))

pub returns-in-None-clause-part : goal.returns-in-None-clause-part
returns-in-None-clause-part c =
    ap plain_body_member (sym c.in-None.is)
    ∙ part_there c.as_slice-members.result.now c.args.place c.index-members-place.result c.if-place-members.false c.index-members-place.is
    ∙ ap (λ ms. part_at (members_in (plain_members ms)) c.args.place) c.as_slice-members.ensures.value
    ∙ sym (ap (λ ms. part_at ms c.args.place) (members_in_body-out c.args.self.now))

pub returns-in-Some-clause-part : goal.returns-in-Some-clause-part
returns-in-Some-clause-part c =
    ap (λ p. Some (plain_body_part p)) c.deref.ensures ∙ ap plain_body_member (sym c.in-Some.is)
    ∙ part_there c.as_slice-members.result.now c.args.place c.index-members-place.result c.if-place-members.false c.index-members-place.is
    ∙ ap (λ ms. part_at (members_in (plain_members ms)) c.args.place) c.as_slice-members.ensures.value
    ∙ sym (ap (λ ms. part_at ms c.args.place) (members_in_body-out c.args.self.now))

pub returns-in-Some-clause-depth : goal.returns-in-Some-clause-depth
returns-in-Some-clause-depth c =
    let ms = c.as_slice-members.result.now in
    let there : part_at (members_in (plain_members ms)) c.args.place ≡ Some (plain_body_part c.deref.result.now) =
    sym (ap (λ p. Some (plain_body_part p)) c.deref.ensures ∙ ap plain_body_member (sym c.in-Some.is)
    ∙ part_there ms c.args.place c.index-members-place.result c.if-place-members.false c.index-members-place.is) in
    let within : part_depth (plain_body_part c.deref.result.now) ≤ members_depth (members_in (plain_members ms)) =
    part-depth (members_in (plain_members ms)) c.args.place (plain_body_part c.deref.result.now) there in
    let whole : body_depth (plain_body c.args.self.now) ≡ suc (members_depth (members_in (plain_members ms))) =
    body_depth-out c.args.self.now ∙ ap (λ ms. suc (members_depth (members_in (plain_members ms)))) (sym c.as_slice-members.ensures.value) in
    omega (arith, within, whole)
