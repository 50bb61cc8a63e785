-- What a value of `Pointers` stands for: the pointers that are down, with all their moments, none of which is stored.
use Rattle.std.specs.Prelude.{◌≡◌, List, [], ◌∷◌, ◌++◌, map}
use Rattle.fx_geom.specs.declared.scales.Scale.{Scale}
use Rattle.gesture_arena.specs.declared.gesture.ArenaEvent.{ArenaEvent}
use Rattle.gesture_arena.specs.declared.gesture.Member.{Member}
use Rattle.gesture_arena.specs.declared.held.HeldPointer.{HeldPointer}
use Rattle.gesture_arena.specs.declared.pointers.Pointers.{Pointers}
use Rattle.gesture_arena.specs.Moment.{Pointer}
use Rattle.gesture_arena.specs.Settled.{member_in}
use Rattle.gesture_arena.specs.Stored.{AllStand}

-- the value stands for these pointers, in order of down, at this scale
pub record StandsFor (v : Pointers) (s : Scale) (ps : List Pointer) : Type 0 where
  pub scale : v.scale ≡ s
  pub pointers : AllStand s v.held.items ps

-- the events that are left to be taken, in order
abbrev pub events_left : Pointers → List ArenaEvent
events_left v = v.events.items

-- the members that are stored, one pointer after another
abbrev pub held_members : List HeldPointer → List Member
held_members [] = []
held_members (h ∷ hs) = map member_in h.members.items ++ held_members hs
