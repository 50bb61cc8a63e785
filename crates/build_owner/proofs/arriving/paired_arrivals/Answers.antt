use Rattle.std.proofs.Common.{get_or, refl, ◌∙◌}
use Rattle.std.proofs.lemmas.Result.{IfOk-weaker}
use Rattle.fx_handles.specs.declared.Handle.{Handle}
use Rattle.build_owner.proofs.Fresh.{lone_paired}
use Rattle.build_owner.proofs.arriving.paired_arrivals.Goals as goal

pub returns-then-widgets-eq1 : goal.returns-then-widgets-eq1
returns-then-widgets-eq1 c =
    let zero_handle : Handle = record { index = 0; generation = 0 } in
    IfOk-weaker c.lone_arrival.result _ _
    (λ v is. is ∙ lone_paired c.args.handles.now c.args.widgets.now (get_or c.args.handles.now 0 zero_handle) zero_handle c.index-widgets-0.result c.requires c.if-widgets-eq1.true refl c.index-widgets-0.is)
    c.lone_arrival.ensures

pub returns : goal.returns
returns c = c.in_ok-arrivals.ensures
