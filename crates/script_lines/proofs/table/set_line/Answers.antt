use Rattle.std.proofs.Common.{option_map, ap, sym, subst, ◌∙◌}
use Rattle.script_lines.specs.Answers.{Gives}
use Rattle.script_lines.specs.Table.{set_line}
use Rattle.script_lines.specs.Words.{rest_of, words_after, text_after}
use Rattle.script_lines.proofs.TableLemmas.{set_line_is}
use Rattle.script_lines.proofs.table.set_line.Goals as goal

pub returns-clause-value : goal.returns-clause-value
returns-clause-value c =
    let whole = ap (λ o. set_line (words_after (option_map (λ s. s.now) o)) (rest_of (rest_of (text_after (option_map (λ s. s.now) o))))) c.in-Some.is
    ∙ set_line_is c.in-Some.rest.now c.cut.result.0.now c.in-Some-rest.rest.now c.cut-2.result.0.now c.in-Some-rest-2.value.now _ _
    c.cut.ensures.words c.cut.ensures.rest (ap (option_map (λ s. s.now)) c.in-Some-rest.is)
    c.cut-2.ensures.words c.cut-2.ensures.rest (ap (option_map (λ s. s.now)) c.in-Some-rest-2.is) in
    subst (λ reading. Gives c.set.result reading) (sym whole) c.set.ensures.value
