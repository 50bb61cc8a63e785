-- The values of inherited names, as the program keeps them.
use Rattle.std.specs.Prelude.{Option, Some, None, List, slice_set}
use Rattle.fx_expr.specs.declared.values.Value.{Value}
use Rattle.plain_build.specs.declared.providing.Outer.{Outer}

-- with the value that a name had
abbrev pub with_outer : Option Outer → List Value → List Value
with_outer None values = values
with_outer (Some o) values = slice_set values o.name o.value
