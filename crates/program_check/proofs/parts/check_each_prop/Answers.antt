use Rattle.std.proofs.Common.{map, ◌∷◌, [], ap, ◌∙◌}
use Rattle.std.proofs.lemmas.List.{map-append}
use Rattle.std.specs.Vec.Iter.{into_iter_items}
use Rattle.program_form.specs.TemplateView.{plain_prop}
use Rattle.program_check.specs.BodyView.{plain_prop_given}
use Rattle.expr_check.specs.ScopeView.{plain_names}
use Rattle.expr_check.specs.Check.{in_order}
use Rattle.program_check.specs.Judged.{checked_prop}
use Rattle.program_check.proofs.LoopLemmas.{resumed-first}
use Rattle.program_check.proofs.parts.check_each_prop.Goals as goal

pub loop-prop-preserved : goal.loop-prop-preserved
loop-prop-preserved c =
    let l = c.loop-prop in
    let given = c.in_ok-check_prop.field-0 in
    let check = checked_prop (plain_names c.args.names.now) c.args.declared.now in
    resumed-first check plain_prop (in_order (map check (map plain_prop (into_iter_items c.into_iter-prop-iterator.result)))) (map plain_prop_given l.props.items)
    (map plain_prop_given c.push.new.self.items) _ c.in-Some.prop _ (plain_prop_given given) c.in-Some.ensures.steps.0 l.invariant c.in_ok-check_prop.ensures
    (ap (map plain_prop_given) c.in_ok-push.ensures.items ∙ map-append plain_prop_given l.props.items (given ∷ []))
