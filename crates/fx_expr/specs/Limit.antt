-- The limits of texts and lists, and how what would be longer is cut.
use Rattle.std.specs.Prelude.{ℕ, zero, suc, ◌==◌, Bool, ◌||◌, ◌&&◌, if◌then◌else◌, nat_lt, nat_le, List, [], ◌∷◌, ◌++◌, length, take, slice_index}

-- a character of the text begins at this byte, or the text ends there
abbrev pub is_boundary : List ℕ → ℕ → Bool
is_boundary bytes at =
    nat_le at (length bytes) && (at == length bytes || nat_lt (slice_index bytes at) 128 || nat_le 192 (slice_index bytes at))

-- the last boundary within this many bytes
unfoldable pub last_boundary : List ℕ → ℕ → ℕ
last_boundary bytes zero = 0
last_boundary bytes (suc limit) =
    if is_boundary bytes (suc limit) then suc limit else last_boundary bytes limit

-- a text, cut at the last character boundary within 1,024 bytes
unfoldable pub cut_text : List ℕ → List ℕ
cut_text bytes = take (last_boundary bytes 1024) bytes

-- a list, of which the first 4,096 items are kept
abbrev pub cut_list : {A : Type 0} → List A → List A
cut_list items = take 4096 items

-- an item added last, or the list unchanged where it has 4,096 items
abbrev pub add_last : {A : Type 0} → List A → A → List A
add_last items x = if nat_lt (length items) 4096 then items ++ x ∷ [] else items
