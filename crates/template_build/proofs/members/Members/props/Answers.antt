use Rattle.std.proofs.Common.{map, sym, subst}
use Rattle.fx_expr.specs.Scope.{types_in}
use Rattle.fx_expr.specs.View.{exp_of}
use Rattle.program_check.specs.BodyView.{plain_body}
use Rattle.template_build.specs.MembersView.{scene_at}
use Rattle.template_build.specs.Wanted.{HaveTypes}
use Rattle.template_build.proofs.TypedMembers.{props_typed_at}
use Rattle.template_build.proofs.members.Members.props.Goals as goal

pub values_of-requires : goal.values_of-requires
values_of-requires c =
    let s = scene_at c.args.self.now in
    subst (λ env. HaveTypes (types_in env) (map exp_of c.prop_exprs.result.now)) (sym c.scope.ensures)
    (subst (HaveTypes (types_in s.env)) (sym c.prop_exprs.ensures) (props_typed_at s (plain_body c.args.self.now.body.now) c.args.place c.requires))
