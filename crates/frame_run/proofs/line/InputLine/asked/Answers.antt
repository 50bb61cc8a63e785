use Rattle.std.proofs.Common.{◌≡◌, ap, subst, ◌∙◌}
use Rattle.std.specs.Result.{IfOk}
use Rattle.frame_run.specs.Script.{asked_of}
use Rattle.frame_run.specs.declared.script.Asked.{Asked}
use Rattle.frame_run.proofs.LineLemmas.{held_entry}
use Rattle.frame_run.proofs.line.InputLine.asked.Goals as goal

pub returns-clause-value : goal.returns-clause-value
returns-clause-value c raw holds =
    let same = ap asked_of c.as_slice.ensures.value ∙ held_entry _ _ _ raw holds in
    subst (λ wanted. IfOk c.read_asked.result (λ (asked : Asked). asked ≡ wanted)) same c.read_asked.ensures.value
