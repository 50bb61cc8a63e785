use Rattle.std.proofs.Common.{◌≡◌, ◌<◌, ◌≤◌, arith, None, length, map, sym, ap, ◌∙◌}
use Rattle.widget_model.specs.View.{look_in, plain_of, shared}
use Rattle.build_form.specs.BuildRole.{build_role_of}
use Rattle.build_form.proofs.Typing.{not_composes}
use Rattle.build_owner.proofs.Gives.{stores_other, stores_none, stores_one}
use Rattle.build_owner.proofs.giving.output_of.Goals as goal

pub returns-in_default : goal.returns-in_default
returns-in_default c =
    stores_other (build_role_of (look_in c.args.widget.now.kind)) None (map shared c.args.given.now)
    (λ place props e. not_composes c.build_role_of.result c.in_default.not-Composes place props (c.build_role_of.ensures.part ∙ e))

pub returns-then-given-eq0 : goal.returns-then-given-eq0
returns-then-given-eq0 c =
    stores_none (build_role_of (look_in c.args.widget.now.kind)) c.args.given.now c.if-given-eq0.true

pub returns : goal.returns
returns c =
    let few : length c.args.given.now ≤ 1 = c.requires c.in-Composes.component c.in-Composes.props.now (sym c.in-Composes.ensures.part) in
    let some : 0 < length c.args.given.now = omega (arith, c.if-given-eq0.false) in
    let same : shared c.in_ok-clone.field-0 ≡ shared c.index-given-0.result = ap plain_of c.in_ok-clone.ensures.cases in
    stores_one (build_role_of (look_in c.args.widget.now.kind)) c.args.given.now c.in_ok-clone.field-0 c.index-given-0.result few some same c.index-given-0.is
