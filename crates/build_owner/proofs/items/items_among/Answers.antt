use Rattle.std.proofs.Common.{◌≤◌, length, map, filter, ap, ◌∙◌, arith}
use Rattle.std.proofs.lemmas.List.{take_all}
use Rattle.build_owner.specs.ArrivalView.{coming, is_there}
use Rattle.build_owner.proofs.Itemized.{item_more}
use Rattle.build_owner.proofs.items.items_among.Goals as goal

pub loop-i-preserved : goal.loop-i-preserved
loop-i-preserved c =
    item_more c.args.range c.args.arriving.now c.loop-i.i c.index-arriving-i.result (map coming c.loop-i.items.items) (map coming c.add_item.new.items.items) c.loop-i-test.true c.index-arriving-i.is c.loop-i.invariant
    c.in_ok-add_item.ensures

pub returns : goal.returns
returns c =
    let long : length c.args.arriving.now ≤ c.loop-i.i = omega arith in
    c.loop-i.invariant ∙ ap (λ l. filter (is_there c.args.range) (map coming l)) (take_all c.loop-i.i c.args.arriving.now long)
