-- The numbers of a script line, and their ranges.
use Rattle.std.specs.Prelude.{ℕ, ◌==◌, ◌&&◌, Bool, not, List, [], ◌∷◌, length, ℤ, pos, negsuc, neg_ℤ, nat_abs, nat_le, Option, Some, None, option_map, option_and_then, if◌then◌else◌}
use Rattle.std.specs.List.{list_all}
use Rattle.std.specs.Char.{is_ascii_digit}
use Rattle.std.specs.Str.Parse.{digits_value}

-- whether these are 1 to 19 decimal digits
abbrev pub is_numeral : List ℕ → Bool
is_numeral digits = not (length digits == 0) && nat_le (length digits) 19 && list_all is_ascii_digit digits

-- the number that they write
abbrev pub magnitude_of : List ℕ → Option ℕ
magnitude_of digits = if is_numeral digits then Some (digits_value 10 digits) else None

-- a number and its negative
abbrev pub positive : ℕ → ℤ
positive n = pos n

abbrev pub negative : ℕ → ℤ
negative n = neg_ℤ (pos n)

-- a number as a line has it: an optional `-`, and 1 to 19 decimal digits
abbrev pub number_of : List ℕ → Option ℤ
number_of [] = None
number_of (x ∷ xs) = if x == 45 then option_map negative (magnitude_of xs) else option_map positive (magnitude_of (x ∷ xs))

-- where it is one from 0 to a greatest
abbrev pub up_to : ℕ → ℤ → Option ℕ
up_to greatest (pos n) = if nat_le n greatest then Some n else None
up_to greatest (negsuc n) = None

-- where it is no further from 0 than so much
abbrev pub within : ℕ → ℤ → Option ℤ
within reach z = if nat_le (nat_abs z) reach then Some z else None

abbrev pub natural_in : ℕ → List ℕ → Option ℕ
natural_in greatest word = option_and_then (up_to greatest) (number_of word)

abbrev pub integer_in : ℕ → List ℕ → Option ℤ
integer_in reach word = option_and_then (within reach) (number_of word)

-- ---- how great the numbers of the lines may be

-- the greatest time, in milliseconds, number of a node, and pointer
abbrev pub greatest_time : ℕ
greatest_time = 1000000000000

abbrev pub greatest_node : ℕ
greatest_node = 1000000000000000000

abbrev pub greatest_pointer : ℕ
greatest_pointer = 4294967295

-- how far a coordinate, a side of a view and a distance may lie from 0, in u: 2^30, 2^53 and 2^40
abbrev pub coordinate_reach : ℕ
coordinate_reach = 1073741824

abbrev pub side_reach : ℕ
side_reach = 9007199254740992

abbrev pub distance_reach : ℕ
distance_reach = 1099511627776

-- the longest time that a tween takes, in milliseconds
abbrev pub greatest_duration : ℕ
greatest_duration = 1000000000

-- ---- the numbers of the lines

-- a time in milliseconds
abbrev pub time_in : List ℕ → Option ℕ
time_in word = natural_in greatest_time word

-- the number of a node, after `#`
abbrev pub node_in : List ℕ → Option ℕ
node_in [] = None
node_in (x ∷ xs) = if x == 35 then natural_in greatest_node xs else None

-- a pointer
abbrev pub pointer_in : List ℕ → Option ℕ
pointer_in word = natural_in greatest_pointer word

-- a coordinate of a point, in u
abbrev pub coordinate_in : List ℕ → Option ℤ
coordinate_in word = integer_in coordinate_reach word

-- a side of a view, in u, as it is read
abbrev pub side_in : List ℕ → Option ℤ
side_in word = integer_in side_reach word

-- a distance, and a number of a delegate
abbrev pub distance_in : List ℕ → Option ℤ
distance_in word = integer_in distance_reach word
