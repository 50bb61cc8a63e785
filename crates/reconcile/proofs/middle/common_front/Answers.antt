use Rattle.std.proofs.Common.{◌≡◌, true, false, sym, ◌∙◌, length, rules, arith, map}
use Rattle.std.proofs.lemmas.List.{length-map}
use Rattle.widget_model.specs.Update.{updates}
use Rattle.widget_model.specs.View.{plain_of, shared}
use Rattle.reconcile.proofs.Fronts.{pair_more, pair_stops, front_all}
use Rattle.reconcile.proofs.middle.common_front.Goals as goal

pub returns-then-not-can_update : goal.returns-then-not-can_update
returns-then-not-can_update c =
    let t : updates (plain_of c.index-old-i.result.value) (plain_of c.index-new-i.result.value) ≡ false = search rules in
    sym (pair_stops updates shared c.args.old.now c.args.new.now c.loop-i.i c.index-old-i.result c.index-new-i.result (omega arith) (omega arith) c.index-old-i.is c.index-new-i.is t c.loop-i.invariant)

pub loop-i-preserved : goal.loop-i-preserved
loop-i-preserved c =
    let t : updates (plain_of c.index-old-i.result.value) (plain_of c.index-new-i.result.value) ≡ true = search rules in
    pair_more updates shared c.args.old.now c.args.new.now c.loop-i.i c.index-old-i.result c.index-new-i.result (omega arith) (omega arith) c.index-old-i.is c.index-new-i.is t c.loop-i.invariant

pub returns : goal.returns
returns c =
    let olds = map shared c.args.old.now in
    let news = map shared c.args.new.now in
    let at : c.loop-i.i ≡ c.min-most.result = omega arith in
    let m : length olds ≡ length c.args.old.now = length-map c.args.old.now shared in
    let n : length news ≡ length c.args.new.now = length-map c.args.new.now shared in
    sym (front_all updates olds news c.loop-i.i (omega arith) (omega arith) c.loop-i.invariant ∙ at)
