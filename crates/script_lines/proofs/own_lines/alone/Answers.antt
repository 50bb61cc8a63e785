use Rattle.std.proofs.Common.{option_map, ap}
use Rattle.script_lines.proofs.TableLemmas.{some_after, alone_more}
use Rattle.script_lines.proofs.own_lines.alone.Goals as goal

pub returns-in-Some-clause-value : goal.returns-in-Some-clause-value
returns-in-Some-clause-value c =
    alone_more c.args.entry _ (some_after _ c.in-Some.field-0.now (ap (option_map (λ s. s.now)) c.in-Some.is))
