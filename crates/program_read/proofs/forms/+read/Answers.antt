use Rattle.std.proofs.Common.{arith, refl, ap, ◌∙◌}
use Rattle.json_tree.specs.View.{items_view}
use Rattle.program_read.specs.ShapeFault.{each}
use Rattle.program_read.specs.Leaves.{walks}
use Rattle.program_read.specs.FormWalk.{form_of}
use Rattle.program_read.proofs.FormLemmas.{forms_of-walks}
use Rattle.program_read.proofs.ItemsLemmas.{depth-at}
use Rattle.program_read.proofs.WalkLemmas.{resumed-none}
use Rattle.program_read.proofs.forms.+read.Goals as goal

pub read_operands-loop-operand-init : goal.read_operands-loop-operand-init
read_operands-loop-operand-init t c =
    let ds = items_view c.args.operands.now in
    rw c.in_ok-forms.ensures.items (refl, ap (each 1) (forms_of-walks ds) ∙ resumed-none (each 1 (walks form_of ds)))

pub read_operands-read_form-requires : goal.read_operands-read_form-requires
read_operands-read_form-requires t c =
    let less = depth-at c.args.operands.now c.loop-operand.operand-index c.operand-item.result c.loop-operand-test.true c.operand-item.is in
    (omega (arith, less, c.decreases), tt)
