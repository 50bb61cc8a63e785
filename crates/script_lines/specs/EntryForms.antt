-- What a script line asks for that no command of a session is, by its words: one row for each form of a line.
use Rattle.std.specs.Prelude.{ℕ, nat_le, List, [], ◌∷◌, codes, Option, Some, None, option_map, option_and_then, ok_or, Result, Ok, Err, if◌then◌else◌}
use Rattle.std.specs.Str.{bytes_eq}
use Rattle.tickers.specs.declared.tween.Curve.{Curve}
use Rattle.tickers.specs.declared.tween.Curve.TheVariants as curve
use Rattle.script_lines.specs.Numbers.{natural_in, node_in, distance_in, greatest_duration}
use Rattle.script_lines.specs.Table.{BadLine, unknown_line, bad_number}
use Rattle.script_lines.specs.declared.entry.Entry.{Entry}
use Rattle.script_lines.specs.declared.entry.Entry.TheVariants as entry

-- a line of a known form asks for something where its numbers are right
abbrev pub entry_if_right : Option Entry → Result Entry BadLine
entry_if_right e = ok_or e bad_number

-- ---- `tween #n FIELD FROM TO MS CURVE`: an unknown curve comes before a wrong number

abbrev pub curve_named : List ℕ → Option Curve
curve_named word =
    if bytes_eq word (codes "linear") then Some curve.Linear
    else if bytes_eq word (codes "in") then Some curve.EaseIn
    else if bytes_eq word (codes "out") then Some curve.EaseOut
    else None

-- how long a tween takes: at least one millisecond
abbrev pub some_time : ℕ → Option ℕ
some_time ms = if nat_le 1 ms then Some ms else None

abbrev pub duration_in : List ℕ → Option ℕ
duration_in word = option_and_then some_time (natural_in greatest_duration word)

abbrev pub tween_form : List ℕ → List ℕ → List ℕ → List ℕ → List ℕ → Curve → Option Entry
tween_form node field from to ms way =
    option_and_then (λ n. option_and_then (λ a. option_and_then (λ b. option_map (λ time. entry.Tween n field a b time way) (duration_in ms)) (distance_in to)) (distance_in from)) (node_in node)

abbrev pub tween_by : List ℕ → List ℕ → List ℕ → List ℕ → List ℕ → Option Curve → Result Entry BadLine
tween_by node field from to ms None = Err unknown_line
tween_by node field from to ms (Some way) = entry_if_right (tween_form node field from to ms way)

abbrev pub tween_line : List (List ℕ) → Result Entry BadLine
tween_line [] = Err unknown_line
tween_line (node ∷ []) = Err unknown_line
tween_line (node ∷ field ∷ []) = Err unknown_line
tween_line (node ∷ field ∷ from ∷ []) = Err unknown_line
tween_line (node ∷ field ∷ from ∷ to ∷ []) = Err unknown_line
tween_line (node ∷ field ∷ from ∷ to ∷ ms ∷ []) = Err unknown_line
tween_line (node ∷ field ∷ from ∷ to ∷ ms ∷ way ∷ []) = tween_by node field from to ms (curve_named way)
tween_line (node ∷ field ∷ from ∷ to ∷ ms ∷ way ∷ a ∷ more) = Err unknown_line

-- ---- `focus next`, `focus prev`, `focus none` and `focus #n`: what is none of these three words is to be a node

abbrev pub focus_form : List ℕ → Option Entry
focus_form word =
    if bytes_eq word (codes "next") then Some entry.FocusNext
    else if bytes_eq word (codes "prev") then Some entry.FocusPrev
    else if bytes_eq word (codes "none") then Some entry.FocusNone
    else option_map entry.FocusOn (node_in word)

abbrev pub focus_line : List (List ℕ) → Result Entry BadLine
focus_line [] = Err unknown_line
focus_line (word ∷ []) = entry_if_right (focus_form word)
focus_line (word ∷ a ∷ more) = Err unknown_line

-- ---- `press` and `cells`, each a line of one word

abbrev pub alone : Entry → List (List ℕ) → Result Entry BadLine
alone e [] = Ok e
alone e (a ∷ more) = Err unknown_line

-- ---- the table

-- a line by its first word and the words after it
unfoldable pub by_first : List ℕ → List (List ℕ) → Result Entry BadLine
by_first word words =
    if bytes_eq word (codes "tween") then tween_line words
    else if bytes_eq word (codes "focus") then focus_line words
    else if bytes_eq word (codes "press") then alone entry.Press words
    else if bytes_eq word (codes "cells") then alone entry.Cells words
    else Err unknown_line

abbrev pub own_entry : List (List ℕ) → Result Entry BadLine
own_entry [] = Err unknown_line
own_entry (word ∷ words) = by_first word words
