use Rattle.std.proofs.Common.{◌==◌, length, arith, ap, sym, subst, ◌∙◌}
use Rattle.script_lines.specs.Answers.{Gives}
use Rattle.script_lines.specs.EntryReading.{entry_by, entry_of}
use Rattle.script_lines.specs.Reading.{line_command, something}
use Rattle.script_lines.proofs.FormLemmas.{never_too_long, never_no_text}
use Rattle.script_lines.proofs.ReadingLemmas.{long_reading, no_text, empty_reading, words_reading}
use Rattle.script_lines.proofs.reading.read_line.Goals as goal

pub returns-then-bytes-gt-LINE_MAX-clause-value : goal.returns-then-bytes-gt-LINE_MAX-clause-value
unfolding entry_of
returns-then-bytes-gt-LINE_MAX-clause-value c = ap (entry_by c.args.bytes.now) (long_reading c.args.bytes.now (omega arith))

pub returns-in_default-clause-value : goal.returns-in_default-clause-value
unfolding entry_of
returns-in_default-clause-value c = ap (entry_by c.args.bytes.now) (no_text c.args.bytes.now (omega arith) c.in_default.ensures.cases.0)

pub returns-then-is_empty-clause-value : goal.returns-then-is_empty-clause-value
unfolding entry_of
returns-then-is_empty-clause-value c =
    let text = c.in-Ok.ensures.cases in
    ap (entry_by c.args.bytes.now)
    (empty_reading c.args.bytes.now (omega arith) text.1 (ap (λ t. length t == 0) (sym text.0) ∙ sym c.is_empty.ensures ∙ c.if-is_empty.true))

pub returns-clause-value : goal.returns-clause-value
unfolding entry_of
returns-clause-value c =
    let text = c.in-Ok.ensures.cases in
    let whole = ap (entry_by c.args.bytes.now)
    (words_reading c.args.bytes.now (omega arith) text.1 (ap (λ t. length t == 0) (sym text.0) ∙ sym c.is_empty.ensures ∙ c.if-is_empty.false))
    ∙ ap (λ t. entry_by t (something (line_command t))) (sym text.0) in
    subst (λ reading. Gives c.line_entry.result reading) (sym whole) c.line_entry.ensures.value

pub returns-clause-too_long : goal.returns-clause-too_long
returns-clause-too_long c = (λ e. absurd (never_too_long _ _ c.line_entry.ensures.value e), λ long. absurd (omega arith))

pub returns-clause-not_utf8 : goal.returns-clause-not_utf8
returns-clause-not_utf8 c = (λ e. absurd (never_no_text _ _ c.line_entry.ensures.value e), λ none. absurd (none.1 (c.in-Ok.ensures.cases.1)))
