-- The handler that a value of a program's text is, or its first fault.
use Rattle.std.specs.Prelude.{List, codes}
use Rattle.serde_json.specs.Data.{Data}
use Rattle.program_read.specs.ShapeFault.{ShapeWalk, at_entry, and_then, given, each}
use Rattle.program_read.specs.Leaves.{entries_of, triple_of, word_is, walks}
use Rattle.program_read.specs.Names.{name_of}
use Rattle.program_read.specs.FormWalk.{form_of}
use Rattle.program_form.specs.Handler.{PlainSet, set_with}

-- `["set",name,expression]`
abbrev pub set_from : Data × Data × Data → ShapeWalk PlainSet
set_from p =
    and_then (at_entry 0 (word_is (codes "set") p.0)) (λ _.
    and_then (at_entry 1 (name_of p.1)) (λ name.
    given (set_with name) (at_entry 2 (form_of p.2))))

unfoldable pub set_of : Data → ShapeWalk PlainSet
set_of d = and_then (triple_of d) set_from

-- a list of them
unfoldable pub handler_of : Data → ShapeWalk (List PlainSet)
handler_of d = and_then (entries_of d) (λ ds. each 0 (walks set_of ds))
