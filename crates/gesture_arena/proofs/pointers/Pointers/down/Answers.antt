use Rattle.std.proofs.Common.{◌≡◌, subst}
use Rattle.fx_geom.specs.declared.shapes.Offset.{Offset}
use Rattle.gesture_arena.specs.Pointers.{down_events}
use Rattle.gesture_arena.specs.StandsFor.{events_left}
use Rattle.gesture_arena.proofs.pointers.Pointers.down.Goals as goal

pub returns-in-Ok-clause-events : goal.returns-in-Ok-clause-events
returns-in-Ok-clause-events c s ps a =
    let P : Offset → Type 0 = λ o. events_left c.put_down.new.self ≡ down_events s c.args.pointer o c.args.now c.args.members.now in
    subst P c.place_of.ensures (c.in-Ok.ensures.events s ps a)
