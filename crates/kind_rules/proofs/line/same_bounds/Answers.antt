use Rattle.std.proofs.Common.{map, refl, arith, rules}
use Rattle.plain_tree.specs.declared.render.ParentData.{ParentData}
use Rattle.kind_rules.proofs.Lists.{same_more}
use Rattle.kind_rules.proofs.Loops.{fills_start, fills_over}
use Rattle.kind_rules.proofs.line.same_bounds.Goals as goal

pub loop-i-init : goal.loop-i-init
loop-i-init g c = record {
  same = fills_start (map (λ (d : ParentData). c.args.inner)) (g.F.Family.told c.args.family) _ c.in_ok-bounds.ensures.items;
  count = search rules;
  room = search rules;
}

pub loop-i-preserved : goal.loop-i-preserved
loop-i-preserved g c = record {
  same = same_more c.args.inner c.loop-i._i (g.F.Family.told c.args.family) c.loop-i.bounds.items _ _ (omega (arith, c.loop-i-test.true, c.len-count.ensures))
      c.push_reserved.ensures.items c.loop-i.invariant.same;
  count = search rules;
  room = search rules;
}

pub returns : goal.returns
returns g c =
    fills_over (map (λ (d : ParentData). c.args.inner)) (g.F.Family.told c.args.family) c.loop-i._i c.loop-i.bounds.items _ refl
    (omega (arith, c.loop-i-test.false, c.len-count.ensures)) c.loop-i.invariant.same
