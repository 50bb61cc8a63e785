use Rattle.std.proofs.Common.{option_map, ap}
use Rattle.script_lines.proofs.TableLemmas.{some_after, seven_words}
use Rattle.script_lines.proofs.own_lines.tween_words.Goals as goal

pub returns-in-Some : goal.returns-in-Some
returns-in-Some c =
    seven_words _ _ _ _ _ _ _ _ _ _ _ _ _ c.in_ok-node.ensures c.in_ok-field.ensures c.in_ok-from.ensures c.in_ok-to.ensures c.in_ok-ms.ensures
    c.in_ok-curve.ensures (some_after _ c.in-Some.field-0.now (ap (option_map (λ s. s.now)) c.in-Some.is))
