use Rattle.std.proofs.Common.{sym, subst}
use Rattle.fx_expr.specs.Scope.{types_in}
use Rattle.expr_check.specs.Handlers.{AreTypedSets}
use Rattle.program_check.specs.BodyView.{plain_body}
use Rattle.template_build.specs.MembersView.{scene_at}
use Rattle.template_build.proofs.TypedMembers.{sets_typed_at}
use Rattle.template_build.proofs.members.Members.handler.Goals as goal

pub close_sets-requires : goal.close_sets-requires
close_sets-requires c =
    let sets = c.in-Some.sets.now in
    subst (λ s. AreTypedSets (types_in s) sets) (sym c.scope.ensures)
    (sets_typed_at (scene_at c.args.self.now) (plain_body c.args.self.now.body.now) c.args.place sets c.requires (sym c.in-Some.ensures))
