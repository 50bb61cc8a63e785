use Rattle.std.proofs.Common.{option_map, ap, ◌∙◌}
use Rattle.script_lines.specs.Table.{by_count}
use Rattle.script_lines.specs.Words.{words_after}
use Rattle.script_lines.proofs.TableLemmas.{many_cut}
use Rattle.script_lines.proofs.table.by_count.Goals as goal

pub returns-in-Some-rest-3-clause-value : goal.returns-in-Some-rest-3-clause-value
returns-in-Some-rest-3-clause-value c =
    ap (λ o. by_count c.args.word.now (words_after (option_map (λ s. s.now) o))) c.in-Some.is
    ∙ many_cut c.args.word.now c.in-Some.rest.now c.cut.result.0.now c.in-Some-rest.rest.now c.cut-2.result.0.now c.in-Some-rest-2.rest.now
    c.cut-3.result.0.now c.in-Some-rest-3.field-0.now _ _ _
    c.cut.ensures.words (ap (option_map (λ s. s.now)) c.in-Some-rest.is)
    c.cut-2.ensures.words (ap (option_map (λ s. s.now)) c.in-Some-rest-2.is)
    c.cut-3.ensures.words (ap (option_map (λ s. s.now)) c.in-Some-rest-3.is)
