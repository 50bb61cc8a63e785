-- Private words of the search for a cluster's end. No public clause cites these.
use Rattle.std.specs.Prelude.{◌≡◌, ℕ, ◌+◌, ◌&&◌, ◌||◌, ◌==◌, Bool, true, false, List, length, slice_index, IsNone}
use Rattle.std.specs.Int.{is_in_range}
use Rattle.unicode_segmentation.specs.Cursor.{IsCursorOn, cursor_is_extended, cursor_is_resuming, cursor_awaits}
use Rattle.unicode_segmentation.specs.declared.grapheme.cursor.GraphemeCursor.{GraphemeCursor}

-- a printable character of ASCII
abbrev pub is_plain : ℕ → Bool
is_plain b = is_in_range 32 126 b

-- the byte at a place is such a character, and so is the one after it, if there is one
abbrev pub ends_plain : List ℕ → ℕ → Bool
ends_plain text at = is_plain (slice_index text at) && ((at + 1 == length text) || is_plain (slice_index text (at + 1)))

-- a cursor for the clusters of a text, which has all that it asked for
pub record StandsOn (cursor : GraphemeCursor) (text : List ℕ) : Type 0 where
  pub on : IsCursorOn cursor text
  pub extended : cursor_is_extended cursor ≡ true
  pub idle : cursor_is_resuming cursor ≡ false
  pub asks : IsNone (cursor_awaits cursor)
