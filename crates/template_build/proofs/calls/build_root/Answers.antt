use Rattle.std.proofs.Common.{◌≡◌, [], ◌∷◌, length, IfOk, sym, subst, ap, ◌∙◌}
use Rattle.program_check.specs.BodyView.{plain_body}
use Rattle.program_check.specs.CheckedView.{plain_checked}
use Rattle.widget_model.specs.Typed.{box, sort_of, IsTypedWidget}
use Rattle.widget_model.specs.View.{shared}
use Rattle.template_build.specs.Output.{output_of}
use Rattle.template_build.specs.Program.{declarations_of, scene_in, props_alone, root_output}
use Rattle.template_build.specs.Suits.{IsBuiltIn}
use Rattle.template_build.proofs.CallLemmas.{root_built, root_fine, root_scene, one_sort, one_typed, on_ok}
use Rattle.template_build.proofs.calls.build_root.Goals as goal

pub one_widget-requires-clause-built : goal.one_widget-requires-clause-built
one_widget-requires-clause-built c =
    let b = plain_body c.args.b.now in
    subst (λ s. IsBuiltIn s b) (sym (root_scene c.parts.result.now c.args.c.now c.parts.ensures.parts))
    (root_built (plain_checked c.args.c.now) b c.parts.ensures.checked.typed c.requires)

pub one_widget-requires-clause-certain : goal.one_widget-requires-clause-certain
one_widget-requires-clause-certain c =
    let b = plain_body c.args.b.now in
    ap (λ s. length (output_of b s)) (root_scene c.parts.result.now c.args.c.now c.parts.ensures.parts)
    ∙ (root_fine (plain_checked c.args.c.now) b c.parts.ensures.checked.typed c.requires).one

pub returns-clause-sort : goal.returns-clause-sort
returns-clause-sort c =
    let p = plain_checked c.args.c.now in
    let b = plain_body c.args.b.now in
    let s = scene_in p (props_alone []) [] 0 in
    on_ok c.one_widget.result (λ w. root_output p b ≡ shared w ∷ []) (λ w. sort_of (declarations_of p) (shared w) ≡ box)
    (λ w e. one_sort box s (root_output p b) (shared w) (root_fine p b c.parts.ensures.checked.typed c.requires) e)
    (subst (λ s. IfOk c.one_widget.result (λ w. output_of b s ≡ shared w ∷ [])) (root_scene c.parts.result.now c.args.c.now c.parts.ensures.parts) c.one_widget.ensures.output)

pub returns-clause-typed : goal.returns-clause-typed
returns-clause-typed c =
    let p = plain_checked c.args.c.now in
    let b = plain_body c.args.b.now in
    let s = scene_in p (props_alone []) [] 0 in
    on_ok c.one_widget.result (λ w. root_output p b ≡ shared w ∷ []) (λ w. IsTypedWidget (declarations_of p) (shared w))
    (λ w e. one_typed box s (root_output p b) (shared w) (root_fine p b c.parts.ensures.checked.typed c.requires) e tt)
    (subst (λ s. IfOk c.one_widget.result (λ w. output_of b s ≡ shared w ∷ [])) (root_scene c.parts.result.now c.args.c.now c.parts.ensures.parts) c.one_widget.ensures.output)
