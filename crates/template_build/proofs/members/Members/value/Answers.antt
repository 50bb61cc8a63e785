use Rattle.std.proofs.Common.{ap, sym, subst, ◌∙◌}
use Rattle.fx_expr.specs.Scope.{types_in}
use Rattle.fx_expr.specs.Typed.{IsTyped, HasType}
use Rattle.fx_expr.specs.View.{exp_of}
use Rattle.program_check.specs.BodyView.{plain_body}
use Rattle.template_build.specs.MembersView.{scene_at}
use Rattle.template_build.specs.Wanted.{is_wanted}
use Rattle.template_build.proofs.TypedMembers.{has_type_at, is_typed_at}
use Rattle.template_build.proofs.Bodies.{kind-out}
use Rattle.template_build.proofs.members.Members.value.Goals as goal

pub eval-requires : goal.eval-requires
eval-requires c =
    let e = exp_of c.in-Some.e.now in
    subst (λ s. HasType (types_in s) e) (sym c.scope.ensures)
    (has_type_at (scene_at c.args.self.now) (plain_body c.args.self.now.body.now) c.args.place e c.requires (sym c.in-Some.ensures))

pub returns-in_ok-eval-in-Some-clause-typed : goal.returns-in_ok-eval-in-Some-clause-typed
returns-in_ok-eval-in-Some-clause-typed c = λ t wanted.
    let e = exp_of c.in-Some.e.now in
    let b = c.args.self.now.body.now in
    c.in_ok-eval-in-Some.ensures.typed t
    (subst (λ s. IsTyped (types_in s) e t) (sym c.scope.ensures)
    (is_typed_at (scene_at c.args.self.now) (plain_body b) c.args.place t e c.requires (sym c.in-Some.ensures)
    (ap (λ w. is_wanted w c.args.place t) (kind-out b) ∙ wanted)))
