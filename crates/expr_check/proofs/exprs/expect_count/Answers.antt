use Rattle.std.proofs.Common.{true, false, sym, ◌∙◌}
use Rattle.expr_check.proofs.ExprsLemmas.{counted-forms}
use Rattle.expr_check.proofs.exprs.expect_count.Goals as goal

pub returns-then-not-takes-clause-answer : goal.returns-then-not-takes-clause-answer
returns-then-not-takes-clause-answer c = counted-forms c.args.operator c.args.operands.now false (sym c.takes.ensures ∙ c.if-not-takes.true)

pub returns-clause-answer : goal.returns-clause-answer
returns-clause-answer c = counted-forms c.args.operator c.args.operands.now true (sym c.takes.ensures ∙ c.if-not-takes.false)
