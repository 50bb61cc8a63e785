-- The least parts of a program's text.
use Rattle.std.specs.Prelude.{ℕ, ◌+◌, ℤ, List, [], ◌∷◌, length, codes, nat_le, if◌then◌else◌, Option, Some, None, Ok, ⊤}
use Rattle.std.specs.Option.{ok_or}
use Rattle.std.specs.Str.{bytes_eq}
use Rattle.serde_json.specs.Data.{Num, Data, Items, no_items, item}
use Rattle.serde_json.specs.Find.{as_str, as_number, as_array, as_i64}
use Rattle.fx_expr.specs.declared.values.Ty.{Ty}
use Rattle.fx_expr.specs.declared.values.Ty.TheVariants as ty
use Rattle.program_read.specs.declared.fault.ShapeCode.{ShapeCode}
use Rattle.program_read.specs.declared.fault.ShapeCode.TheVariants.{WrongKind, NotInteger, OverLimit, WrongCount}
use Rattle.program_read.specs.ShapeFault.{ShapeWalk, here, stops, and_then}

-- what is there, or this fault at the value at hand
abbrev pub or_stop : {A : Type 0} → ShapeCode → Option A → ShapeWalk A
or_stop code found = ok_or found (here code)

-- the string that a value is
abbrev pub string_of : Data → ShapeWalk (List ℕ)
string_of d = or_stop WrongKind (as_str d)

-- a number as an integer of 64 bits: it is written without a fraction and an exponent, and isn't `-0`
abbrev pub number_of : Num → ShapeWalk ℤ
number_of n = or_stop NotInteger (as_i64 n)

-- the integer that a value is
abbrev pub integer_of : Data → ShapeWalk ℤ
integer_of d = and_then (or_stop WrongKind (as_number d)) number_of

-- a string as a text: at most 1,024 bytes
abbrev pub text_in : List ℕ → ShapeWalk (List ℕ)
text_in s = if nat_le (length s) 1024 then Ok s else stops OverLimit

-- the number of a list's entries
abbrev pub count_of : Items → ℕ
count_of no_items = 0
count_of (item d ds) = count_of ds + 1

abbrev pub within_limit : Items → ShapeWalk Items
within_limit ds = if nat_le (count_of ds) 4096 then Ok ds else stops OverLimit

-- the entries of the list that a value is: at most 4,096
abbrev pub entries_of : Data → ShapeWalk Items
entries_of d = and_then (or_stop WrongKind (as_array d)) within_limit

-- exactly two, or three
abbrev pub two_of : Items → ShapeWalk (Data × Data)
two_of no_items = stops WrongCount
two_of (item a no_items) = stops WrongCount
two_of (item a (item b no_items)) = Ok (a, b)
two_of (item a (item b (item c ds))) = stops WrongCount

abbrev pub three_of : Items → ShapeWalk (Data × Data × Data)
three_of no_items = stops WrongCount
three_of (item a no_items) = stops WrongCount
three_of (item a (item b no_items)) = stops WrongCount
three_of (item a (item b (item c no_items))) = Ok (a, b, c)
three_of (item a (item b (item c (item d ds)))) = stops WrongCount

abbrev pub pair_of : Data → ShapeWalk (Data × Data)
pair_of d = and_then (entries_of d) two_of

abbrev pub triple_of : Data → ShapeWalk (Data × Data × Data)
triple_of d = and_then (entries_of d) three_of

-- a value is this word
abbrev pub same_word : List ℕ → List ℕ → ShapeWalk ⊤
same_word word found = if bytes_eq found word then Ok tt else stops WrongKind

abbrev pub word_is : List ℕ → Data → ShapeWalk ⊤
word_is word d = and_then (string_of d) (same_word word)

-- the walks of a list's entries
abbrev pub walks : {A : Type 0} → (Data → A) → Items → List A
walks walk no_items = []
walks walk (item d ds) = walk d ∷ walks walk ds

-- the type that a word names
abbrev pub type_named : List ℕ → Option Ty
type_named word =
    if bytes_eq word (codes "int") then Some ty.Int
    else (if bytes_eq word (codes "bool") then Some ty.Bool
    else (if bytes_eq word (codes "text") then Some ty.Text
    else (if bytes_eq word (codes "ints") then Some ty.Ints
    else (if bytes_eq word (codes "texts") then Some ty.Texts
    else None))))

abbrev pub type_of : Data → ShapeWalk Ty
type_of d = and_then (string_of d) (λ word. or_stop WrongKind (type_named word))
