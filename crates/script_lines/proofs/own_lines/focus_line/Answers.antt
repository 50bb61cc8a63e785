use Rattle.std.proofs.Common.{option_map, ap}
use Rattle.script_lines.proofs.TableLemmas.{some_after, focus_more}
use Rattle.script_lines.proofs.own_lines.focus_line.Goals as goal

pub returns-in-Some-rest-clause-value : goal.returns-in-Some-rest-clause-value
returns-in-Some-rest-clause-value c =
    focus_more _ _ c.in-Some.word.now c.in-Some.ensures (some_after _ c.in-Some-rest.field-0.now (ap (option_map (λ s. s.now)) c.in-Some-rest.is))
