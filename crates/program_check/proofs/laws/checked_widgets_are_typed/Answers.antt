use Rattle.program_check.proofs.TypedPrograms.{widget-typed}
use Rattle.program_check.proofs.laws.checked_widgets_are_typed.Goals as goal

pub returns : goal.returns
returns c = widget-typed
