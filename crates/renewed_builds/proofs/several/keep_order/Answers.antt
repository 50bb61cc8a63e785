use Rattle.std.proofs.Common.{drop, is_some, refl, sym, ap, ◌∙◌}
use Rattle.std.specs.List.{list_all}
use Rattle.renewed_builds.specs.Renewing.{Change}
use Rattle.renewed_builds.specs.Several.{keeps_order}
use Rattle.renewed_builds.proofs.Mapped.{some_mapped, keep_more, keep_all}
use Rattle.renewed_builds.proofs.several.keep_order.Goals as goal

pub loop-i-init : goal.loop-i-init
loop-i-init c = refl

pub loop-i-preserved : goal.loop-i-preserved
loop-i-preserved c =
    let d = c.index-changes-i.result in
    let quiet = ap (λ (x : Change). is_some x.order) (sym c.index-changes-i.is ∙ sym c.change.view_is) ∙ some_mapped _ c.change.inside.order ∙ sym c.is_some.ensures ∙ c.if-is_some.false in
    keep_more c.args.changes.now c.loop-i.i d (list_all keeps_order (drop c.args.first c.args.changes.now)) c.loop-i-test.true c.loop-i.invariant quiet

pub returns : goal.returns
returns c = keep_all c.args.changes.now c.loop-i.i (list_all keeps_order (drop c.args.first c.args.changes.now)) c.loop-i-test.false c.loop-i.invariant
