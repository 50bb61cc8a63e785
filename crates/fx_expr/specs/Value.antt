-- Values: their types, what is in them, and what the forms that work on whole values give.
use Rattle.std.specs.Prelude.{ℕ, ◌==◌, ℤ, pos, negsuc, Bool, false, Option, None, List, [], ◌++◌, length, reverse, remove, slice_get}
use Rattle.std.specs.Option.{option_map}
use Rattle.std.specs.Bool.{beq}
use Rattle.std.specs.Ordering.{int_eq}
use lib.Pointwise.{pointwise}
use Rattle.fx_expr.specs.declared.values.Value.{Value}
use Rattle.fx_expr.specs.declared.values.Value.TheVariants as value
use Rattle.fx_expr.specs.declared.values.Ty.{Ty}
use Rattle.fx_expr.specs.declared.values.Ty.TheVariants as ty
use Rattle.fx_expr.specs.Limit.{cut_text, cut_list, add_last}

-- the type of a value
abbrev pub type_of : Value → Ty
type_of (value.Int n) = ty.Int
type_of (value.Bool b) = ty.Bool
type_of (value.Text t) = ty.Text
type_of (value.Ints ns) = ty.Ints
type_of (value.Texts ts) = ty.Texts

-- what is in a value of one type; a value of another type counts as 0, as false, or as empty
abbrev pub int_in : Value → ℤ
int_in (value.Int n) = n
int_in _ = pos 0

abbrev pub bool_in : Value → Bool
bool_in (value.Bool b) = b
bool_in _ = false

abbrev pub text_in : Value → List ℕ
text_in (value.Text t) = t
text_in _ = []

abbrev pub ints_in : Value → List ℤ
ints_in (value.Ints ns) = ns
ints_in _ = []

abbrev pub texts_in : Value → List (List ℕ)
texts_in (value.Texts ts) = ts
texts_in _ = []

-- two values have the same type and the same content
abbrev pub value_eq : Value → Value → Bool
value_eq (value.Int m) (value.Int n) = int_eq m n
value_eq (value.Bool a) (value.Bool b) = beq a b
value_eq (value.Text s) (value.Text t) = pointwise ◌==◌ s t
value_eq (value.Ints ms) (value.Ints ns) = pointwise int_eq ms ns
value_eq (value.Texts ss) (value.Texts ts) = pointwise (pointwise ◌==◌) ss ts
value_eq _ _ = false

-- two texts or two lists of one type, one after the other, cut at the limit
abbrev pub joined_values : Value → Value → Value
joined_values (value.Text s) (value.Text t) = value.Text (cut_text (s ++ t))
joined_values (value.Ints ms) (value.Ints ns) = value.Ints (cut_list (ms ++ ns))
joined_values (value.Texts ss) (value.Texts ts) = value.Texts (cut_list (ss ++ ts))
joined_values v _ = v

-- how many items a list has
abbrev pub item_count : Value → ℕ
item_count (value.Ints ns) = length ns
item_count (value.Texts ts) = length ts
item_count _ = 0

-- the item of a list at a place, counted from 0, where there is one
abbrev pub place_of : {A : Type 0} → List A → ℤ → Option A
place_of items (pos i) = slice_get items i
place_of items (negsuc i) = None

abbrev pub item_at : Value → ℤ → Option Value
item_at (value.Ints ns) i = option_map value.Int (place_of ns i)
item_at (value.Texts ts) i = option_map value.Text (place_of ts i)
item_at _ _ = None

-- a list with an item added last, or unchanged at 4,096 items
abbrev pub with_last : Value → Value → Value
with_last (value.Ints ns) (value.Int n) = value.Ints (add_last ns n)
with_last (value.Texts ts) (value.Text t) = value.Texts (add_last ts t)
with_last v _ = v

-- a list without the item at a place, or unchanged where there is none
abbrev pub without_place : {A : Type 0} → List A → ℤ → List A
without_place items (pos i) = remove items i
without_place items (negsuc i) = items

abbrev pub without_item : Value → ℤ → Value
without_item (value.Ints ns) i = value.Ints (without_place ns i)
without_item (value.Texts ts) i = value.Texts (without_place ts i)
without_item v _ = v

-- a list from its last item to its first
abbrev pub reversed_value : Value → Value
reversed_value (value.Ints ns) = value.Ints (reverse ns)
reversed_value (value.Texts ts) = value.Texts (reverse ts)
reversed_value v = v
