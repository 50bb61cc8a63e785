-- What a check gives is typed.
use Rattle.std.proofs.Common.{Result, Ok, Err, IfOk}
use Rattle.program_form.specs.Program.{PlainProgram}
use Rattle.program_form.specs.Template.{PlainTemplate}
use Rattle.program_check.specs.declared.checked.Checked.{Checked}
use Rattle.program_check.specs.declared.checked.Body.{Body}
use Rattle.program_check.specs.declared.refusals.CheckFault.{CheckFault}
use Rattle.program_check.specs.BodyView.{plain_body}
use Rattle.program_check.specs.Checked.{PlainChecked}
use Rattle.program_check.specs.CheckedView.{plain_checked}
use Rattle.program_check.specs.ProgramCheck.{checked_program, checked_widget}
use Rattle.program_check.specs.Refusals.{AnswersPlaced}
use Rattle.program_check.specs.TypedChecked.{IsTypedChecked, IsTypedRoot}
use Rattle.program_check.proofs.TypedPrograms.{program-typed, widget-typed}

pub typed_program : (r : Result Checked CheckFault) (p : PlainProgram) → AnswersPlaced plain_checked r (checked_program p) → IfOk r (λ c. IsTypedChecked (plain_checked c))
typed_program (Ok c) p e = program-typed p (plain_checked c) e
typed_program (Err fault) p e = tt

pub typed_root : (r : Result Body CheckFault) (c : PlainChecked) (t : PlainTemplate) → AnswersPlaced plain_body r (checked_widget c t) → IfOk r (λ b. IsTypedRoot c (plain_body b))
typed_root (Ok b) c t e = widget-typed c t (plain_body b) e
typed_root (Err fault) c t e = tt
