-- The depth of what a call is given, and how far two lists agree.
use Rattle.std.proofs.Common.{◌≡◌, ◌+◌, ◌*◌, map, take}
use Rattle.fx_expr.specs.declared.exprs.Expr.{size-Expr}
use Rattle.fx_expr.specs.declared.exprs.ExprList.{size-ExprList}
use Rattle.fx_expr.specs.View.{exp_of}
use Rattle.fx_expr.specs.LevelView.{operand_depth, items_depth}
use Rattle.fx_expr.proofs.sameness.+sameness.Given as goal

abbrev pub decreases-same_expr : goal.decreases-same_expr
decreases-same_expr l = 3 * size-Expr l.a.now

abbrev pub decreases-same_operands : goal.decreases-same_operands
decreases-same_operands l = 3 * operand_depth l.a + 1

abbrev pub decreases-same_lists : goal.decreases-same_lists
decreases-same_lists l = 3 * items_depth l.a + 2

abbrev pub decreases-same_items : goal.decreases-same_items
decreases-same_items l = 3 * size-ExprList l.a.now + 1

abbrev pub invariant-same_items-loop-i : goal.invariant-same_items-loop-i
invariant-same_items-loop-i l = take l.i (map exp_of l.e-items) ≡ take l.i (map exp_of l.others)
