-- The value of a field, from JSON of its type.
use Rattle.std.specs.Prelude.{ℕ, ℤ, Option, Some, option_map, option_and_then, List, [], ◌∷◌}
use Rattle.std.specs.Result.{result_ok}
use Rattle.serde_json.specs.Data.{Data, Items, no_items, item}
use Rattle.serde_json.specs.Find.{as_bool}
use Rattle.fx_expr.specs.declared.values.Ty.{Ty}
use Rattle.fx_expr.specs.declared.values.Ty.TheVariants as ty
use Rattle.fx_expr.specs.declared.values.Value.{Value}
use Rattle.fx_expr.specs.declared.values.Value.TheVariants as value
use Rattle.program_read.specs.ShapeFault.{and_then}
use Rattle.program_read.specs.Leaves.{integer_of, string_of, text_in, entries_of}
use Rattle.program_read.specs.Reading.{json_of}

-- an integer, a text and the items of a list are read as those of a program, under the same limits
abbrev pub int_from : Data → Option ℤ
int_from d = result_ok (integer_of d)

abbrev pub text_from : Data → Option (List ℕ)
text_from d = result_ok (and_then (string_of d) text_in)

abbrev pub items_in : Data → Option Items
items_in d = result_ok (entries_of d)

-- each item of a list
abbrev pub each_from : {A : Type 0} → (Data → Option A) → Items → Option (List A)
each_from one no_items = Some []
each_from one (item d ds) = option_and_then (λ x. option_map (λ xs. x ∷ xs) (each_from one ds)) (one d)

abbrev pub list_from : {A : Type 0} → (Data → Option A) → Data → Option (List A)
list_from one d = option_and_then (each_from one) (items_in d)

-- a value of a type; an empty list is of both list types
abbrev pub value_from : Ty → Data → Option Value
value_from ty.Int d = option_map value.Int (int_from d)
value_from ty.Bool d = option_map value.Bool (as_bool d)
value_from ty.Text d = option_map value.Text (text_from d)
value_from ty.Ints d = option_map value.Ints (list_from int_from d)
value_from ty.Texts d = option_map value.Texts (list_from text_from d)

-- what bytes say, where they are JSON of the type
unfoldable pub value_read : Ty → List ℕ → Option Value
value_read t bytes = option_and_then (value_from t) (json_of bytes)
