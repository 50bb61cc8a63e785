-- The key that a value of a program's text is, or its first fault.
use Rattle.std.specs.Prelude.{ℕ, List, codes, if◌then◌else◌, Option, Some, None}
use Rattle.std.specs.Str.{bytes_eq}
use Rattle.serde_json.specs.Data.{Data}
use Rattle.program_read.specs.declared.fault.ShapeCode.TheVariants.{WrongKind}
use Rattle.program_read.specs.declared.keys.Reach.{Reach}
use Rattle.program_read.specs.declared.keys.Reach.TheVariants.{Local, Global}
use Rattle.program_read.specs.ShapeFault.{ShapeWalk, at_entry, and_then, given}
use Rattle.program_read.specs.Leaves.{or_stop, string_of, pair_of}
use Rattle.program_read.specs.FormWalk.{form_of}
use Rattle.program_form.specs.Form.{PlainForm}
use Rattle.program_form.specs.Key.{PlainKey, local, global}

-- how far a key reaches
abbrev pub reach_named : List ℕ → Option Reach
reach_named word =
    if bytes_eq word (codes "local") then Some Local
    else (if bytes_eq word (codes "global") then Some Global
    else None)

abbrev pub reach_of : Data → ShapeWalk Reach
reach_of d = and_then (string_of d) (λ word. or_stop WrongKind (reach_named word))

abbrev pub key_with : Reach → PlainForm → PlainKey
key_with Local e = local e
key_with Global e = global e

-- `["local",expression]` or `["global",expression]`
abbrev pub key_from : Data × Data → ShapeWalk PlainKey
key_from p = and_then (at_entry 0 (reach_of p.0)) (λ reach. given (key_with reach) (at_entry 1 (form_of p.1)))

unfoldable pub key_of : Data → ShapeWalk PlainKey
key_of d = and_then (pair_of d) key_from
