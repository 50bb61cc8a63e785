-- The text of values and keys.
use Rattle.std.specs.Prelude.{ℕ, Bool, true, false, List, [], ◌∷◌, ◌++◌, codes, map}
use Rattle.std.specs.Fmt.{signed_decimal}
use Rattle.draw_records.specs.Quoted.{quoted}
use Rattle.fx_expr.specs.declared.values.Value.{Value}
use Rattle.fx_expr.specs.declared.values.Value.TheVariants as value
use Rattle.widget_keys.specs.declared.keys.Key.{Key}
use Rattle.widget_keys.specs.declared.keys.Key.TheVariants as key

abbrev pub bool_text : Bool → List ℕ
bool_text true = codes "true"
bool_text false = codes "false"

-- each after a comma
abbrev pub others_text : List (List ℕ) → List ℕ
others_text [] = []
others_text (item ∷ items) = codes "," ++ item ++ others_text items

-- `[a,b]`
abbrev pub list_text : List (List ℕ) → List ℕ
list_text [] = codes "[]"
list_text (item ∷ items) = codes "[" ++ item ++ others_text items ++ codes "]"

abbrev pub value_text : Value → List ℕ
value_text (value.Int n) = signed_decimal n
value_text (value.Bool b) = bool_text b
value_text (value.Text t) = quoted t
value_text (value.Ints ns) = list_text (map signed_decimal ns)
value_text (value.Texts ts) = list_text (map quoted ts)

-- a key: its value, after `global` where it is a global one
abbrev pub key_text : Key Value → List ℕ
key_text key.None = []
key_text (key.Local v) = value_text v
key_text (key.Global v) = codes "global " ++ value_text v
