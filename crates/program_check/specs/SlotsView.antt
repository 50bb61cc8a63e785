-- The names of a component's slots as plain data.
use Rattle.std.specs.Prelude.{ℕ, List, map, String, string_bytes}
use Rattle.std.specs.declared.alloc.Global.{Global}

-- the keys of a set
abbrev pub slots_in : List (String Global) → List (List ℕ)
slots_in ks = map string_bytes ks
