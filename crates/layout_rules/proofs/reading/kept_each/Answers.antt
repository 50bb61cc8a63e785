use Rattle.std.proofs.Common.{refl, arith}
use Rattle.layout_rules.specs.Reads.{kept_at, kept_in, state_at}
use Rattle.layout_rules.proofs.Filling.{fills_start, fills_over, maps_on}
use Rattle.layout_rules.proofs.reading.kept_each.Goals as goal

pub loop-child-init : goal.loop-child-init
loop-child-init c = record {
  same = fills_start (kept_at c.args.r.now.tree) c.args.children.now _ c.in_ok-asks.ensures.items;
  count = c.in_ok-asks.ensures.len;
  room = c.in_ok-asks.ensures.capacity;
}

pub loop-child-preserved : goal.loop-child-preserved
loop-child-preserved c = record {
  same = maps_on (λ h. kept_in (state_at c.args.r.now.tree h)) c.args.children.now c.loop-child.child-index _ _ c.loop-child.asks.items _ _ c.loop-child-test.true c.push_reserved.ensures.items
      c.kept_ask.ensures c.loop-child.invariant.same;
  count = let was = c.loop-child.invariant.count in let one = c.push_reserved.ensures.len in omega (arith, was, one);
  room = let was = c.loop-child.invariant.room in let same = c.push_reserved.ensures.capacity in omega (arith, was, same);
}

pub returns : goal.returns
returns c =
    fills_over (kept_at c.args.r.now.tree) c.args.children.now c.loop-child.child-index c.loop-child.asks.items _ refl c.loop-child-test.false c.loop-child.invariant.same

pub push_reserved-requires : goal.push_reserved-requires
push_reserved-requires c =
    let count = c.loop-child.invariant.count in
    let room = c.loop-child.invariant.room in
    let less = c.loop-child-test.true in
    omega (arith, count, room, less)
