-- What a script line asks for, by its words: one row for each form of a line.
use Rattle.std.specs.Prelude.{ℕ, List, [], ◌∷◌, codes, Option, Some, None, option_map, option_and_then, ok_or, Result, Ok, Err, if◌then◌else◌}
use Rattle.std.specs.Str.{bytes_eq}
use Rattle.script_lines.specs.Numbers.{time_in, node_in, pointer_in, coordinate_in, side_in, distance_in}
use Rattle.script_lines.specs.declared.command.Action.{Action}
use Rattle.script_lines.specs.declared.command.Action.TheVariants as action
use Rattle.script_lines.specs.declared.command.Command.{Command}
use Rattle.script_lines.specs.declared.command.Command.TheVariants as command

-- why a line is refused
pub data BadLine : Type 0 where
  too_long : BadLine
  not_utf8 : BadLine
  unknown_line : BadLine
  bad_number : BadLine

-- a line of a known form asks for something where its numbers are right
abbrev pub if_right : Option Command → Result Command BadLine
if_right command = ok_or command bad_number

-- ---- the forms

-- `at T`
abbrev pub at_form : List ℕ → Option Command
at_form t = option_map command.At (time_in t)

-- `up P`, `cancel P`
abbrev pub up_form : List ℕ → Option Command
up_form pointer = option_map command.Up (pointer_in pointer)

abbrev pub cancel_form : List ℕ → Option Command
cancel_form pointer = option_map command.Cancel (pointer_in pointer)

-- `resize W H`
abbrev pub resize_form : List ℕ → List ℕ → Option Command
resize_form w h = option_and_then (λ width. option_map (command.Resize width) (side_in h)) (side_in w)

-- `scroll #n D`
abbrev pub scroll_form : List ℕ → List ℕ → Option Command
scroll_form node by = option_and_then (λ n. option_map (command.Scroll n) (distance_in by)) (node_in node)

-- `hit X Y`
abbrev pub hit_form : List ℕ → List ℕ → Option Command
hit_form x y = option_and_then (λ a. option_map (command.Hit a) (coordinate_in y)) (coordinate_in x)

-- `act #n ACTION`: an unknown action comes before a wrong number
abbrev pub action_named : List ℕ → Option Action
action_named word = if bytes_eq word (codes "tap") then Some action.Tap else if bytes_eq word (codes "long") then Some action.Long else None

abbrev pub act_by : List ℕ → Option Action → Result Command BadLine
act_by node None = Err unknown_line
act_by node (Some action) = if_right (option_map (λ n. command.Act n action) (node_in node))

-- `down P X Y`, `move P X Y`
abbrev pub down_form : List ℕ → List ℕ → List ℕ → Option Command
down_form pointer x y =
    option_and_then (λ p. option_and_then (λ a. option_map (command.Down p a) (coordinate_in y)) (coordinate_in x)) (pointer_in pointer)

abbrev pub move_form : List ℕ → List ℕ → List ℕ → Option Command
move_form pointer x y =
    option_and_then (λ p. option_and_then (λ a. option_map (command.Move p a) (coordinate_in y)) (coordinate_in x)) (pointer_in pointer)

-- `delegate NAME FIELD N`
abbrev pub delegate_form : List ℕ → List ℕ → List ℕ → Option Command
delegate_form name field n = option_map (command.Delegate name field) (distance_in n)

-- `set #n field value`
abbrev pub set_form : List ℕ → List ℕ → List ℕ → Option Command
set_form node field value = option_map (λ n. command.Set n field value) (node_in node)

-- ---- the table

-- lines of one word
unfoldable pub one_word : List ℕ → Result Command BadLine
one_word word =
    if bytes_eq word (codes "frame") then Ok command.Frame
    else if bytes_eq word (codes "semantics") then Ok command.Semantics
    else if bytes_eq word (codes "states") then Ok command.States
    else Err unknown_line

-- lines of two words
unfoldable pub two_words : List ℕ → List ℕ → Result Command BadLine
two_words word a =
    if bytes_eq word (codes "at") then if_right (at_form a)
    else if bytes_eq word (codes "up") then if_right (up_form a)
    else if bytes_eq word (codes "cancel") then if_right (cancel_form a)
    else if bytes_eq word (codes "unplug") then Ok (command.Unplug a)
    else Err unknown_line

-- lines of three words
unfoldable pub three_words : List ℕ → List ℕ → List ℕ → Result Command BadLine
three_words word a b =
    if bytes_eq word (codes "resize") then if_right (resize_form a b)
    else if bytes_eq word (codes "scroll") then if_right (scroll_form a b)
    else if bytes_eq word (codes "hit") then if_right (hit_form a b)
    else if bytes_eq word (codes "act") then act_by a (action_named b)
    else Err unknown_line

-- lines of four words
unfoldable pub four_words : List ℕ → List ℕ → List ℕ → List ℕ → Result Command BadLine
four_words word a b c =
    if bytes_eq word (codes "down") then if_right (down_form a b c)
    else if bytes_eq word (codes "move") then if_right (move_form a b c)
    else if bytes_eq word (codes "delegate") then if_right (delegate_form a b c)
    else Err unknown_line

-- a line by its first word and the words after it
abbrev pub by_count : List ℕ → List (List ℕ) → Result Command BadLine
by_count word [] = one_word word
by_count word (a ∷ []) = two_words word a
by_count word (a ∷ b ∷ []) = three_words word a b
by_count word (a ∷ b ∷ c ∷ []) = four_words word a b c
by_count word (a ∷ b ∷ c ∷ d ∷ more) = Err unknown_line

-- a line `root`, whose JSON is what stands after its first word, and a line `set`, whose value is what stands after its
-- third one
abbrev pub root_line : List (List ℕ) → List ℕ → Result Command BadLine
root_line [] json = Err unknown_line
root_line (a ∷ more) json = Ok (command.Root json)

abbrev pub set_line : List (List ℕ) → List ℕ → Result Command BadLine
set_line [] value = Err unknown_line
set_line (a ∷ []) value = Err unknown_line
set_line (a ∷ b ∷ []) value = Err unknown_line
set_line (a ∷ b ∷ c ∷ more) value = if_right (set_form a b value)
