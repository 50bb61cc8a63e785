use Rattle.std.proofs.Common.{refl}
use Rattle.fx_expr.proofs.SetLaws.{next_set, first_fits, one_done, rest_fits, all_done}
use Rattle.fx_expr.proofs.handlers.run_sets.Goals as goal

pub loop-set-init : goal.loop-set-init
loop-set-init c = (refl, c.requires)

pub run_set-requires : goal.run_set-requires
run_set-requires c =
    let is = next_set c.args.sets.now c.loop-set.set-index c.set-item.result c.loop-set-test.true c.set-item.is in
    first_fits _ _ _ c.set-item.result c.loop-set.invariant.1 is

pub loop-set-preserved : goal.loop-set-preserved
loop-set-preserved c =
    let is = next_set c.args.sets.now c.loop-set.set-index c.set-item.result c.loop-set-test.true c.set-item.is in (
      one_done c.loop-set.fields.items c.run_set.new.fields.items _ _ _ c.set-item.result c.args.event.0 c.args.event.1 c.loop-set.invariant.0 is c.in_ok-run_set.ensures,
      rest_fits c.loop-set.fields.items c.run_set.new.fields.items _ _ c.set-item.result c.args.event.0 c.args.event.1 c.loop-set.invariant.1 is c.in_ok-run_set.ensures,
    )

pub returns : goal.returns
returns c = all_done _ _ c.args.sets.now c.loop-set.set-index c.args.event.0 c.args.event.1 c.loop-set-test.false c.loop-set.invariant.0
