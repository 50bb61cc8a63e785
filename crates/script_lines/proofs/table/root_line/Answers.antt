use Rattle.std.proofs.Common.{option_map, Ok, ap, sym, ◌∙◌}
use Rattle.script_lines.specs.Table.{root_line}
use Rattle.script_lines.specs.Words.{words_after, text_after}
use Rattle.script_lines.specs.declared.command.Command.TheVariants as command
use Rattle.script_lines.proofs.TableLemmas.{root_words}
use Rattle.script_lines.proofs.table.root_line.Goals as goal

pub returns-clause-value : goal.returns-clause-value
returns-clause-value c =
    ap (λ o. root_line (words_after (option_map (λ s. s.now) o)) (text_after (option_map (λ s. s.now) o))) c.in-Some.is
    ∙ root_words c.in-Some.json.now ∙ ap (λ json. Ok (command.Root json)) (sym c.in_ok-owned.ensures)
