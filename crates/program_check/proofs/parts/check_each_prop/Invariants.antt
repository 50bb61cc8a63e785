use Rattle.std.proofs.Common.{◌≡◌, map}
use Rattle.std.specs.Vec.Iter.{into_iter_items}
use Rattle.program_form.specs.TemplateView.{plain_prop}
use Rattle.program_check.specs.BodyView.{plain_prop_given}
use Rattle.expr_check.specs.ScopeView.{plain_names}
use Rattle.expr_check.specs.Check.{in_order}
use Rattle.program_check.specs.Judged.{checked_prop}
use Rattle.expr_check.proofs.HandlerLemmas.{resumed}
use Rattle.program_check.proofs.parts.check_each_prop.Given as goal

abbrev pub invariant-loop-prop : goal.invariant-loop-prop
invariant-loop-prop l =
    let check = checked_prop (plain_names l.names) l.declared in
    in_order (map check (map plain_prop (into_iter_items l.initial.prop-iterator)))
    ≡ resumed (map plain_prop_given l.props.items) (in_order (map check (map plain_prop (into_iter_items l.prop-iterator))))
