-- The reading of a script line: what it asks for, or why it is refused.
use Rattle.std.specs.Prelude.{ℕ, ◌==◌, List, [], ◌∷◌, codes, length, nat_le, not, Option, Some, None, Result, Ok, Err, if◌then◌else◌}
use Rattle.std.specs.Str.{bytes_eq, is_utf8}
use Rattle.script_lines.specs.Table.{BadLine, too_long, not_utf8, unknown_line, by_count, root_line, set_line}
use Rattle.script_lines.specs.Words.{words_of, rest_of}
use Rattle.script_lines.specs.declared.command.Command.{Command}

-- what a line asks for, by its words
abbrev pub by_words : List ℕ → List (List ℕ) → Result Command BadLine
by_words line [] = Err unknown_line
by_words line (word ∷ words) =
    if bytes_eq word (codes "root") then root_line words (rest_of line)
    else if bytes_eq word (codes "set") then set_line words (rest_of (rest_of (rest_of line)))
    else by_count word words

unfoldable pub line_command : List ℕ → Result Command BadLine
line_command line = by_words line (words_of line)

-- where there is something to do, what it is
abbrev pub something : Result Command BadLine → Result (Option Command) BadLine
something (Ok command) = Ok (Some command)
something (Err bad) = Err bad

-- The reading of a line without its end and what is dropped there. An empty line asks for nothing.
unfoldable pub command_of : List ℕ → Result (Option Command) BadLine
command_of line =
    if not (nat_le (length line) 65536) then Err too_long
    else if not (is_utf8 line) then Err not_utf8
    else if length line == 0 then Ok None
    else something (line_command line)
