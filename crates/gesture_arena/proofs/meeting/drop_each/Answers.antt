use Rattle.std.proofs.Common.{arith}
use Rattle.gesture_arena.specs.Pointers.{loses}
use Rattle.gesture_arena.proofs.EachMeets.{midway_next, midway_last}
use Rattle.gesture_arena.proofs.meeting.drop_each.Goals as goal

pub loop-h-preserved : goal.loop-h-preserved
loop-h-preserved c = record {
  met = λ ps a. midway_next c.args.scale.now (loses c.args.gone.now) c.loop-h.held c.loop-h.h-index _ c.drop_one.new.held c.args.events.now.items c.loop-h.events.items
      c.drop_one.new.events.items ps (omega arith) (c.loop-h.invariant.met ps a) c.drop_one.ensures.stands c.drop_one.ensures.events;
  len = omega arith;
  capacity = omega arith;
}

pub returns-clause-stands : goal.returns-clause-stands
returns-clause-stands c ps a =
    (midway_last c.args.scale.now (loses c.args.gone.now) c.loop-h.held c.loop-h.h-index _ _ ps (omega arith) (c.loop-h.invariant.met ps a)).0

pub returns-clause-events : goal.returns-clause-events
returns-clause-events c ps a =
    (midway_last c.args.scale.now (loses c.args.gone.now) c.loop-h.held c.loop-h.h-index _ _ ps (omega arith) (c.loop-h.invariant.met ps a)).1
