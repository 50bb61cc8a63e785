-- The reading of a line, by its tests.
use Rattle.std.proofs.Common.{◌≡◌, ℕ, ◌<◌, ◌≤◌, ◌==◌, Bool, true, false, not, List, length, nat_le, Option, None, Result, Ok, Err, refl, ap, ◌∙◌, arith, if◌then◌else◌}
use Rattle.std.specs.Str.{IsUtf8, is_utf8}
use Rattle.std.proofs.lemmas.Bool.Decides.{nat_tests}
use Rattle.std.proofs.lemmas.Str.{IsUtf8-from_is_utf8, is_utf8-from_IsUtf8}
use Rattle.script_lines.specs.Reading.{line_command, something, command_of}
use Rattle.script_lines.specs.Table.{BadLine, too_long, not_utf8}
use Rattle.script_lines.specs.declared.command.Command.{Command}

abbrev by_tests : List ℕ → Bool → Bool → Bool → Result (Option Command) BadLine
by_tests line fits is_text is_empty =
    if not fits then Err too_long else if not is_text then Err not_utf8 else if is_empty then Ok None else something (line_command line)

fits : (line : List ℕ) → length line ≤ 65536 → nat_le (length line) 65536 ≡ true
fits line h = grind (arith, nat_tests)

pub long_reading : (line : List ℕ) → 65536 < length line → command_of line ≡ Err too_long
unfolding command_of
long_reading line h = let long : nat_le (length line) 65536 ≡ false = grind (arith, nat_tests) in ap (λ v. by_tests line v (is_utf8 line) (length line == 0)) long

pub no_text : (line : List ℕ) → length line ≤ 65536 → ¬ (IsUtf8 line) → command_of line ≡ Err not_utf8
unfolding command_of
no_text line h none =
    ap (λ v. by_tests line v (is_utf8 line) (length line == 0)) (fits line h)
    ∙ (elim (is_utf8 line) as (λ v. is_utf8 line ≡ v → by_tests line true v (length line == 0) ≡ Err not_utf8)
    [ true ↦ λ e. absurd (none (IsUtf8-from_is_utf8 line e)) | false ↦ λ e. refl ]) refl

text_reading : (line : List ℕ) → length line ≤ 65536 → IsUtf8 line → command_of line ≡ by_tests line true true (length line == 0)
unfolding command_of
text_reading line h text =
    ap (λ v. by_tests line v (is_utf8 line) (length line == 0)) (fits line h)
    ∙ ap (λ v. by_tests line true v (length line == 0)) (is_utf8-from_IsUtf8 line text)

pub empty_reading : (line : List ℕ) → length line ≤ 65536 → IsUtf8 line → length line == 0 ≡ true → command_of line ≡ Ok None
empty_reading line h text e = text_reading line h text ∙ ap (by_tests line true true) e

pub words_reading : (line : List ℕ) → length line ≤ 65536 → IsUtf8 line → length line == 0 ≡ false → command_of line ≡ something (line_command line)
words_reading line h text e = text_reading line h text ∙ ap (by_tests line true true) e
