-- The names of the program's maps as plain data.
use Rattle.std.specs.Prelude.{List, map, String, string_bytes}
use Rattle.std.specs.declared.alloc.Global.{Global}
use Rattle.fx_expr.specs.declared.values.Ty.{Ty}
use Rattle.expr_check.specs.Names.{NamedTypes}

-- the entries of a map
abbrev pub names_in : List (String Global × Ty) → NamedTypes
names_in es = map (λ e. (string_bytes e.0, e.1)) es
