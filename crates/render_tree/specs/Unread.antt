-- The kinds with members that no layout reads.
use Rattle.std.specs.Prelude.{Bool, true, false}
use Rattle.widget_model.specs.Look.{Look, colored_box, text, opacity, ignore_pointer, absorb_pointer, detector, semantics, exclude_semantics}

-- colours and alpha are for painting alone
abbrev pub is_coloured : Look → Bool
is_coloured (colored_box color) = true
is_coloured (text words color) = true
is_coloured (opacity alpha) = true
is_coloured look = false

-- what is said of pointers is for hits alone
abbrev pub is_pointed : Look → Bool
is_pointed (ignore_pointer ignoring) = true
is_pointed (absorb_pointer absorbing) = true
is_pointed (detector how tap long vertical horizontal pan) = true
is_pointed look = false

-- what is said to a reader of the screen is for that alone
abbrev pub is_said : Look → Bool
is_said (semantics label button container) = true
is_said (exclude_semantics excluding) = true
is_said look = false
