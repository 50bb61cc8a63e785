use Rattle.std.proofs.Common.{sym, ◌∙◌}
use Rattle.template_build.specs.SceneView.{scene_of}
use Rattle.template_build.proofs.ChoiceLemmas.{choice_wants}
use Rattle.template_build.proofs.OutputSteps.{then-output, else-output}
use Rattle.template_build.proofs.parts.branch.Goals as goal

pub flag_or-requires-clause-wanted : goal.flag_or-requires-clause-wanted
flag_or-requires-clause-wanted c = choice_wants c.args.body.now.w c.requires.role

pub returns-then-branch-clause-output : goal.returns-then-branch-clause-output
returns-then-branch-clause-output c =
    then-output c.args.body.now (scene_of c.args.scene.now c.args.vars.now) c.requires.role (sym c.in_ok-flag_or.ensures ∙ c.if-branch.true)

pub returns-else-branch-clause-output : goal.returns-else-branch-clause-output
returns-else-branch-clause-output c =
    else-output c.args.body.now (scene_of c.args.scene.now c.args.vars.now) c.requires.role (sym c.in_ok-flag_or.ensures ∙ c.if-branch.false)
