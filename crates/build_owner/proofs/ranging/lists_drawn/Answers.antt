use Rattle.std.proofs.Common.{◌≤◌, length, ap, ◌∙◌, arith}
use Rattle.std.proofs.lemmas.List.{take_all}
use Rattle.build_walk.specs.Merging.{lists_redraw}
use Rattle.build_owner.specs.Ranging.{listed_in}
use Rattle.build_owner.proofs.Ranged.{listed_more}
use Rattle.build_owner.proofs.ranging.lists_drawn.Goals as goal

pub loop-i-preserved : goal.loop-i-preserved
loop-i-preserved c =
    listed_more lists_redraw c.args.plan.now c.loop-i.i c.index-plan-i.result c.loop-i.lists.items c.add_list.new.lists.items c.loop-i-test.true c.index-plan-i.is c.loop-i.invariant c.in_ok-add_list.ensures

pub returns : goal.returns
returns c =
    let long : length c.args.plan.now ≤ c.loop-i.i = omega arith in
    c.loop-i.invariant ∙ ap (listed_in lists_redraw) (take_all c.loop-i.i c.args.plan.now long)
