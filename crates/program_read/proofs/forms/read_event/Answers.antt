use Rattle.std.proofs.Common.{decimal, subst, sym}
use Rattle.json_tree.specs.View.{view}
use Rattle.program_form.specs.FormView.{plain_form}
use Rattle.program_read.specs.Answers.{Answers}
use Rattle.program_read.specs.ShapeFault.{at_entry, and_then}
use Rattle.program_read.specs.FormWalk.{movement_of}
use Rattle.program_read.proofs.WalkLemmas.{answers-within}
use Rattle.program_read.proofs.forms.read_event.Goals as goal

pub returns : goal.returns
returns c =
    subst (λ w. Answers plain_form c.at_entry.result (and_then w (λ d. at_entry 1 (movement_of d)))) (sym c.in_ok-operand.ensures)
    (answers-within plain_form (decimal 1) (movement_of (view c.in_ok-operand.operand.now)) c.read_movement.result c.at_entry.result c.read_movement.ensures c.at_entry.ensures)
