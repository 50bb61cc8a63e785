use Rattle.std.proofs.Common.{◌≡◌, ◌+◌, ◌*◌, length, map, drop}
use Rattle.serde_json.specs.Data.{depth, items_depth}
use Rattle.json_tree.specs.View.{view, items_view}
use Rattle.program_read.specs.ShapeFault.{each}
use Rattle.program_read.specs.Leaves.{walks}
use Rattle.program_form.specs.FormView.{plain_form}
use Rattle.program_read.specs.FormWalk.{form_of, forms_of}
use Rattle.program_read.proofs.WalkLemmas.{resumed}
use Rattle.program_read.proofs.forms.+read.Given as goal

abbrev pub decreases-read_form : goal.decreases-read_form
decreases-read_form l = 4 * depth (view l.value.now)

abbrev pub decreases-read_list : goal.decreases-read_list
decreases-read_list l = 4 * items_depth (items_view l.entries.now) + 3

abbrev pub decreases-read_operation : goal.decreases-read_operation
decreases-read_operation l = 4 * items_depth (items_view l.operands.now) + 2

abbrev pub decreases-read_operands : goal.decreases-read_operands
decreases-read_operands l = 4 * items_depth (items_view l.operands.now) + 1

-- what is given so far and the walks of what is left
abbrev pub invariant-read_operands-loop-operand : goal.invariant-read_operands-loop-operand
invariant-read_operands-loop-operand l =
    (length l.forms.items ≡ l.operand-index)
    × (each 1 (forms_of (items_view l.operands))
    ≡ resumed (map plain_form l.forms.items) (each (l.operand-index + 1) (walks form_of (items_view (drop l.operand-index l.operands)))))
