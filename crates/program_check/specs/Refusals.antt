-- How a call answers a check that says where it is made: with what the check gives, with what is wrong first, or for want of memory.
use Rattle.std.specs.Prelude.{◌≡◌, ℕ, Option, Result, Ok, Err}
use Rattle.expr_check.specs.declared.fault.CheckStop.{CheckStop}
use Rattle.expr_check.specs.declared.fault.CheckStop.TheVariants as stop
use Rattle.program_check.specs.declared.refusals.CheckFault.{CheckFault}
use Rattle.program_check.specs.declared.refusals.CheckFault.TheVariants.{Bad, OutOfMemory}
use Rattle.expr_check.specs.Check.{code_number}
use Rattle.program_check.specs.ProgramCheck.{CheckedAt, bad_with}

-- what stops a check, as a refusal names it
abbrev pub refusal_at : Option ℕ → CheckStop → CheckFault
refusal_at component (stop.Bad code) = Bad (code_number code) component
refusal_at component stop.OutOfMemory = OutOfMemory

abbrev pub RefusesAs : {A : Type 0} → CheckFault → CheckedAt A → Type 0
RefusesAs (Bad code component) check = check ≡ Err (bad_with code component)
RefusesAs OutOfMemory check = Unit {0}

abbrev pub AnswersPlaced : {X A : Type 0} → (X → A) → Result X CheckFault → CheckedAt A → Type 0
AnswersPlaced plain (Ok x) check = check ≡ Ok (plain x)
AnswersPlaced plain (Err fault) check = RefusesAs fault check
