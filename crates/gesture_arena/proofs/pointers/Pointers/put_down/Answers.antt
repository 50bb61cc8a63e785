use Rattle.gesture_arena.specs.Moment.{down}
use Rattle.gesture_arena.specs.Pointers.{touched}
use Rattle.gesture_arena.specs.Stored.{offset_of}
use Rattle.gesture_arena.proofs.Whole.{put-stand, put-events}
use Rattle.gesture_arena.proofs.pointers.Pointers.put_down.Goals as goal

pub returns-clause-stands : goal.returns-clause-stands
returns-clause-stands c s ps a = record {
  scale = a.scale;
  pointers = put-stand s c.args.self.now.scale c.args.self.now.held.items _ ps c.in_ok-held.held c.meet-met.new.self
      (touched c.args.pointer (offset_of c.args.at) c.args.now c.args.members.now) down a.scale c.meet-met.ensures.steps (c.in_ok-held.ensures s) c.in_ok-add.ensures.ok a.pointers;
}

pub returns-clause-events : goal.returns-clause-events
returns-clause-events c s ps a =
    put-events s c.args.self.now.scale c.in_ok-held.held c.meet-met.new.self (touched c.args.pointer (offset_of c.args.at) c.args.now c.args.members.now) down
    c.meet-met.result.decided c.meet-met.result.effect _ _ _ a.scale c.meet-met.ensures.steps (c.in_ok-held.ensures s) c.meet-met.ensures.decided
    c.meet-met.ensures.effect c.requires.none_left c.put.ensures.items c.put-2.ensures.items
