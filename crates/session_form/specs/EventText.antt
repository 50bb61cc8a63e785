-- The lines of gestures' events.
use Rattle.std.specs.Prelude.{ℕ, List, [], ◌∷◌, ◌++◌, codes}
use Rattle.std.specs.Fmt.{decimal, signed_decimal}
use Rattle.gesture_arena.specs.declared.gesture.ArenaEvent.{ArenaEvent}
use Rattle.gesture_arena.specs.declared.gesture.ArenaEvent.TheVariants.{Won, Nobody, Tap, Long, Start, Update, End}
use Rattle.gesture_arena.specs.declared.gesture.Gesture.{Gesture}
use Rattle.gesture_arena.specs.declared.gesture.Gesture.TheVariants as gesture

abbrev pub gesture_text : Gesture → List ℕ
gesture_text gesture.Tap = codes "tap"
gesture_text gesture.Long = codes "long"
gesture_text gesture.Vertical = codes "vertical"
gesture_text gesture.Horizontal = codes "horizontal"
gesture_text gesture.Pan = codes "pan"

-- ` #n`
abbrev pub node_text : ℕ → List ℕ
node_text node = codes " #" ++ decimal node

-- ` #n GESTURE`
abbrev pub member_text : ℕ → Gesture → List ℕ
member_text node g = node_text node ++ (codes " " ++ gesture_text g)

-- `arena P #n GESTURE` or `arena P none`, `tap #n`, `long #n`, `start #n GESTURE`, `update #n GESTURE DX DY`, `end #n GESTURE`
abbrev pub event_text : ArenaEvent → List ℕ
event_text (Won pointer node g) = codes "arena " ++ (decimal pointer ++ (member_text node g ++ codes "\n"))
event_text (Nobody pointer) = codes "arena " ++ (decimal pointer ++ codes " none\n")
event_text (Tap node) = codes "tap" ++ (node_text node ++ codes "\n")
event_text (Long node) = codes "long" ++ (node_text node ++ codes "\n")
event_text (Start node g) = codes "start" ++ (member_text node g ++ codes "\n")
event_text (Update node g dx dy) =
    codes "update" ++ (member_text node g ++ (codes " " ++ (signed_decimal dx ++ (codes " " ++ (signed_decimal dy ++ codes "\n")))))
event_text (End node g) = codes "end" ++ (member_text node g ++ codes "\n")

abbrev pub events_text : List ArenaEvent → List ℕ
events_text [] = []
events_text (e ∷ es) = event_text e ++ events_text es
