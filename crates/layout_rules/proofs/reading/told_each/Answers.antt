use Rattle.std.proofs.Common.{map, refl, arith}
use Rattle.layout_rules.specs.Reads.{told_at}
use Rattle.layout_rules.proofs.Filling.{fills_start, fills_over, maps_on}
use Rattle.layout_rules.proofs.reading.told_each.Goals as goal

pub loop-child-init : goal.loop-child-init
loop-child-init c = record {
  same = fills_start (map (told_at c.args.r.now.tree)) c.args.children.now _ c.in_ok-told.ensures.items;
  count = c.in_ok-told.ensures.len;
  room = c.in_ok-told.ensures.capacity;
}

pub loop-child-preserved : goal.loop-child-preserved
loop-child-preserved c = record {
  same = maps_on (told_at c.args.r.now.tree) c.args.children.now c.loop-child.child-index _ _ c.loop-child.told.items _ _ c.loop-child-test.true c.push_reserved.ensures.items
      c.told_at.ensures c.loop-child.invariant.same;
  count = let was = c.loop-child.invariant.count in let one = c.push_reserved.ensures.len in omega (arith, was, one);
  room = let was = c.loop-child.invariant.room in let same = c.push_reserved.ensures.capacity in omega (arith, was, same);
}

pub returns : goal.returns
returns c =
    fills_over (map (told_at c.args.r.now.tree)) c.args.children.now c.loop-child.child-index c.loop-child.told.items _ refl c.loop-child-test.false c.loop-child.invariant.same

pub push_reserved-requires : goal.push_reserved-requires
push_reserved-requires c =
    let count = c.loop-child.invariant.count in
    let room = c.loop-child.invariant.room in
    let less = c.loop-child-test.true in
    omega (arith, count, room, less)
