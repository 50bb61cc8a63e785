use Rattle.std.proofs.Common.{◌≡◌, ℕ, ◌<◌, min, true, false, rules, arith}
use Rattle.widget_model.specs.Update.{updates}
use Rattle.widget_model.specs.View.{plain_of, shared}
use Rattle.reconcile.proofs.Fronts.{end_more, end_stops}
use Rattle.reconcile.proofs.middle.common_end.Goals as goal

capped : (n i most : ℕ) → n ≡ i → i < most → i ≡ min n most
capped n i most e h = omega arith

pub returns-then-not-can_update : goal.returns-then-not-can_update
returns-then-not-can_update c =
    let t : updates (plain_of c.index-old-old.result.value) (plain_of c.index-new-new.result.value) ≡ false = search rules in
    capped _ _ _ (end_stops updates shared c.args.old.now c.args.new.now c.loop-i.i c.index-old-old.result c.index-new-new.result (omega arith) (omega arith) c.index-old-old.is c.index-new-new.is t c.loop-i.invariant) (omega arith)

pub loop-i-preserved : goal.loop-i-preserved
loop-i-preserved c =
    let t : updates (plain_of c.index-old-old.result.value) (plain_of c.index-new-new.result.value) ≡ true = search rules in
    end_more updates shared c.args.old.now c.args.new.now c.loop-i.i c.index-old-old.result c.index-new-new.result (omega arith) (omega arith) c.index-old-old.is c.index-new-new.is t c.loop-i.invariant
