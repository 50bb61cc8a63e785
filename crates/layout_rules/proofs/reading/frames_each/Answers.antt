use Rattle.std.proofs.Common.{refl, ap, ◌∙◌, drop, Option, option_map, List, get_or, arith}
use Rattle.fx_handles.specs.declared.Handle.{Handle}
use Rattle.layout_form.specs.declared.asks.Ask.{Ask}
use Rattle.layout_form.specs.Framed.{last_asks}
use Rattle.kind_rules.specs.Few.{items_of}
use Rattle.layout_walk.specs.Node.{frame_or}
use Rattle.layout_rules.specs.Reads.{frames_at, state_at}
use Rattle.layout_rules.proofs.Filling.{fills_over, frames_on}
use Rattle.layout_rules.proofs.reading.frames_each.Goals as goal

pub loop-i-preserved : goal.loop-i-preserved
loop-i-preserved c =
    let t = c.args.r.now.tree in
    let asks = last_asks (items_of c.args.first.now) (items_of c.args.rest.now) in record {
      same = frames_on t asks c.args.children.now c.loop-i.i (record { index = 0; generation = 0 }) c.frame_if.result c.loop-i.frames.items _ _ c.loop-i-test.true c.push_reserved.ensures.items
          (c.frame_if.ensures ∙ ap (λ (o : Option Ask). option_map (λ (ask : Ask). frame_or (state_at t (get_or c.args.children.now c.loop-i.i (record { index = 0; generation = 0 }))).frame) o) c.asked_at.ensures) c.loop-i.invariant.same;
      count = let was = c.loop-i.invariant.count in let one = c.push_reserved.ensures.len in omega (arith, was, one);
      room = let was = c.loop-i.invariant.room in let same = c.push_reserved.ensures.capacity in omega (arith, was, same);
    }

pub returns : goal.returns
returns c =
    fills_over (λ (hs : List Handle). frames_at c.args.r.now.tree (drop c.loop-i.i (last_asks (items_of c.args.first.now) (items_of c.args.rest.now))) hs)
    c.args.children.now c.loop-i.i c.loop-i.frames.items _ refl c.loop-i-test.false c.loop-i.invariant.same

pub push_reserved-requires : goal.push_reserved-requires
push_reserved-requires c =
    let count = c.loop-i.invariant.count in
    let room = c.loop-i.invariant.room in
    let less = c.loop-i-test.true in
    omega (arith, count, room, less)
