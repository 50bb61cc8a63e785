-- A line that is read is refused for its form or for a number, and for nothing else.
use Rattle.std.proofs.Common.{◌≢◌, ℕ, Bool, true, false, List, [], ◌∷◌, codes, Option, Some, None, option_map, Result, Ok, Err, subst, if◌then◌else◌}
use Rattle.std.specs.Str.{bytes_eq}
use Rattle.script_lines.specs.Answers.{Gives}
use Rattle.script_lines.specs.EntryForms.{entry_if_right, curve_named, tween_form, tween_by, tween_line, focus_form, focus_line, alone, by_first, own_entry}
use Rattle.script_lines.specs.EntryReading.{some_entry, entry_by}
use Rattle.script_lines.specs.Numbers.{node_in}
use Rattle.script_lines.specs.Reading.{by_words, line_command, something}
use Rattle.script_lines.specs.Table.{BadLine, too_long, not_utf8, unknown_line, bad_number, if_right, at_form, up_form, cancel_form, resize_form, scroll_form, hit_form, action_named, act_by, down_form, move_form, delegate_form, set_form, one_word, two_words, three_words, four_words, by_count, root_line, set_line}
use Rattle.script_lines.specs.Words.{words_of, rest_of}
use Rattle.script_lines.specs.declared.command.Action.{Action}
use Rattle.script_lines.specs.declared.command.Command.{Command}
use Rattle.script_lines.specs.declared.command.Command.TheVariants as command
use Rattle.script_lines.specs.declared.entry.Entry.{Entry}
use Rattle.script_lines.specs.declared.entry.Entry.TheVariants as entry
use Rattle.script_lines.specs.declared.fault.LineFault.{LineFault}
use Rattle.script_lines.specs.declared.fault.LineFault.TheVariants as fault
use Rattle.tickers.specs.declared.tween.Curve.{Curve}

abbrev IsOfForm : {A : Type 0} → Result A BadLine → Type 0
IsOfForm (Ok x) = Unit {0}
IsOfForm (Err too_long) = ⊥
IsOfForm (Err not_utf8) = ⊥
IsOfForm (Err unknown_line) = Unit {0}
IsOfForm (Err bad_number) = Unit {0}

-- ---- the commands of a session

of_right : (command : Option Command) → IsOfForm (if_right command)
of_right None = tt
of_right (Some command) = tt

of_act : (node : List ℕ) (action : Option Action) → IsOfForm (act_by node action)
of_act node None = tt
of_act node (Some action) = of_right (option_map (λ n. command.Act n action) (node_in node))

one_by : (frame semantics states : Bool)
    → IsOfForm (if frame then Ok command.Frame else if semantics then Ok command.Semantics else if states then Ok command.States else Err unknown_line)
one_by true semantics states = tt
one_by false true states = tt
one_by false false true = tt
one_by false false false = tt

of_one : (word : List ℕ) → IsOfForm (one_word word)
unfolding one_word
of_one word = one_by (bytes_eq word (codes "frame")) (bytes_eq word (codes "semantics")) (bytes_eq word (codes "states"))

two_by : (a : List ℕ) (at up cancel unplug : Bool)
    → IsOfForm (if at then if_right (at_form a) else if up then if_right (up_form a) else if cancel then if_right (cancel_form a)
    else if unplug then Ok (command.Unplug a) else Err unknown_line)
two_by a true up cancel unplug = of_right (at_form a)
two_by a false true cancel unplug = of_right (up_form a)
two_by a false false true unplug = of_right (cancel_form a)
two_by a false false false true = tt
two_by a false false false false = tt

of_two : (word a : List ℕ) → IsOfForm (two_words word a)
unfolding two_words
of_two word a = two_by a (bytes_eq word (codes "at")) (bytes_eq word (codes "up")) (bytes_eq word (codes "cancel")) (bytes_eq word (codes "unplug"))

three_by : (a b : List ℕ) (resize scroll hit act : Bool)
    → IsOfForm (if resize then if_right (resize_form a b) else if scroll then if_right (scroll_form a b) else if hit then if_right (hit_form a b)
    else if act then act_by a (action_named b) else Err unknown_line)
three_by a b true scroll hit act = of_right (resize_form a b)
three_by a b false true hit act = of_right (scroll_form a b)
three_by a b false false true act = of_right (hit_form a b)
three_by a b false false false true = of_act a (action_named b)
three_by a b false false false false = tt

of_three : (word a b : List ℕ) → IsOfForm (three_words word a b)
unfolding three_words
of_three word a b = three_by a b (bytes_eq word (codes "resize")) (bytes_eq word (codes "scroll")) (bytes_eq word (codes "hit")) (bytes_eq word (codes "act"))

four_by : (a b c : List ℕ) (down move delegate : Bool)
    → IsOfForm (if down then if_right (down_form a b c) else if move then if_right (move_form a b c) else if delegate then if_right (delegate_form a b c)
    else Err unknown_line)
four_by a b c true move delegate = of_right (down_form a b c)
four_by a b c false true delegate = of_right (move_form a b c)
four_by a b c false false true = of_right (delegate_form a b c)
four_by a b c false false false = tt

of_four : (word a b c : List ℕ) → IsOfForm (four_words word a b c)
unfolding four_words
of_four word a b c = four_by a b c (bytes_eq word (codes "down")) (bytes_eq word (codes "move")) (bytes_eq word (codes "delegate"))

of_count : (word : List ℕ) (words : List (List ℕ)) → IsOfForm (by_count word words)
of_count word [] = of_one word
of_count word (a ∷ []) = of_two word a
of_count word (a ∷ b ∷ []) = of_three word a b
of_count word (a ∷ b ∷ c ∷ []) = of_four word a b c
of_count word (a ∷ b ∷ c ∷ d ∷ more) = tt

of_root : (words : List (List ℕ)) (json : List ℕ) → IsOfForm (root_line words json)
of_root [] json = tt
of_root (a ∷ more) json = tt

of_set : (words : List (List ℕ)) (value : List ℕ) → IsOfForm (set_line words value)
of_set [] value = tt
of_set (a ∷ []) value = tt
of_set (a ∷ b ∷ []) value = tt
of_set (a ∷ b ∷ c ∷ more) value = of_right (set_form a b value)

words_by : (line word : List ℕ) (words : List (List ℕ)) (root set : Bool)
    → IsOfForm (if root then root_line words (rest_of line) else if set then set_line words (rest_of (rest_of (rest_of line))) else by_count word words)
words_by line word words true set = of_root words (rest_of line)
words_by line word words false true = of_set words (rest_of (rest_of (rest_of line)))
words_by line word words false false = of_count word words

of_words : (line : List ℕ) (words : List (List ℕ)) → IsOfForm (by_words line words)
of_words line [] = tt
of_words line (word ∷ words) = words_by line word words (bytes_eq word (codes "root")) (bytes_eq word (codes "set"))

-- ---- what a run keeps beside it

of_entry_right : (e : Option Entry) → IsOfForm (entry_if_right e)
of_entry_right None = tt
of_entry_right (Some e) = tt

of_tween_by : (node field from to ms : List ℕ) (way : Option Curve) → IsOfForm (tween_by node field from to ms way)
of_tween_by node field from to ms None = tt
of_tween_by node field from to ms (Some way) = of_entry_right (tween_form node field from to ms way)

of_tween : (words : List (List ℕ)) → IsOfForm (tween_line words)
of_tween [] = tt
of_tween (node ∷ []) = tt
of_tween (node ∷ field ∷ []) = tt
of_tween (node ∷ field ∷ from ∷ []) = tt
of_tween (node ∷ field ∷ from ∷ to ∷ []) = tt
of_tween (node ∷ field ∷ from ∷ to ∷ ms ∷ []) = tt
of_tween (node ∷ field ∷ from ∷ to ∷ ms ∷ way ∷ []) = of_tween_by node field from to ms (curve_named way)
of_tween (node ∷ field ∷ from ∷ to ∷ ms ∷ way ∷ a ∷ more) = tt

of_focus : (words : List (List ℕ)) → IsOfForm (focus_line words)
of_focus [] = tt
of_focus (word ∷ []) = of_entry_right (focus_form word)
of_focus (word ∷ a ∷ more) = tt

of_alone : (e : Entry) (words : List (List ℕ)) → IsOfForm (alone e words)
of_alone e [] = tt
of_alone e (a ∷ more) = tt

first_by : (words : List (List ℕ)) (tween focus press cells : Bool)
    → IsOfForm (if tween then tween_line words else if focus then focus_line words else if press then alone entry.Press words
    else if cells then alone entry.Cells words else Err unknown_line)
first_by words true focus press cells = of_tween words
first_by words false true press cells = of_focus words
first_by words false false true cells = of_alone entry.Press words
first_by words false false false true = of_alone entry.Cells words
first_by words false false false false = tt

of_first : (word : List ℕ) (words : List (List ℕ)) → IsOfForm (by_first word words)
unfolding by_first
of_first word words = first_by words (bytes_eq word (codes "tween")) (bytes_eq word (codes "focus")) (bytes_eq word (codes "press")) (bytes_eq word (codes "cells"))

of_own : (words : List (List ℕ)) → IsOfForm (own_entry words)
of_own [] = tt
of_own (word ∷ words) = of_first word words

-- ---- a line

of_some : (r : Result Entry BadLine) → IsOfForm r → IsOfForm (some_entry r)
of_some (Ok e) h = tt
of_some (Err too_long) h = h
of_some (Err not_utf8) h = h
of_some (Err unknown_line) h = tt
of_some (Err bad_number) h = tt

of_something : (line : List ℕ) (r : Result Command BadLine) → IsOfForm r → IsOfForm (entry_by line (something r))
of_something line (Ok command) h = tt
of_something line (Err too_long) h = h
of_something line (Err not_utf8) h = h
of_something line (Err unknown_line) h = of_some (own_entry (words_of line)) (of_own (words_of line))
of_something line (Err bad_number) h = tt

of_line : (line : List ℕ) → IsOfForm (entry_by line (something (line_command line)))
unfolding line_command
of_line line = of_something line (by_words line (words_of line)) (of_words line (words_of line))

pub never_too_long : (line : List ℕ) (result : Result (Option Entry) LineFault) → Gives result (entry_by line (something (line_command line)))
    → result ≢ Err fault.LineTooLong
never_too_long line result gives e =
    let P : Result (Option Entry) LineFault → Type 0 = λ r. Gives r (entry_by line (something (line_command line))) in
    let Q : Result (Option Entry) BadLine → Type 0 = λ r. IsOfForm r in
    subst Q (subst P e gives) (of_line line)

pub never_no_text : (line : List ℕ) (result : Result (Option Entry) LineFault) → Gives result (entry_by line (something (line_command line)))
    → result ≢ Err fault.NotUtf8
never_no_text line result gives e =
    let P : Result (Option Entry) LineFault → Type 0 = λ r. Gives r (entry_by line (something (line_command line))) in
    let Q : Result (Option Entry) BadLine → Type 0 = λ r. IsOfForm r in
    subst Q (subst P e gives) (of_line line)
