use Rattle.program_form.specs.ProgramView.{plain_program}
use Rattle.program_check.proofs.TypedCalls.{typed_program}
use Rattle.program_check.proofs.calls.check.Goals as goal

pub returns-clause-typed : goal.returns-clause-typed
returns-clause-typed c = typed_program c.check_program.result (plain_program c.args.p) c.check_program.ensures
