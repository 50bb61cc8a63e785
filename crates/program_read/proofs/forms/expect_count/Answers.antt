use Rattle.std.proofs.Common.{true, false, rules, sym, ◌∙◌}
use Rattle.program_read.proofs.FormLemmas.{counted-values}
use Rattle.program_read.proofs.WalkLemmas.{StopsAs-here}
use Rattle.program_read.proofs.forms.expect_count.Goals as goal

pub returns-then-not-takes : goal.returns-then-not-takes
returns-then-not-takes c =
    StopsAs-here _ _ _ c.here.ensures
    (counted-values c.args.operator c.args.operands.now _ false (search rules) (sym c.takes.ensures ∙ c.if-not-takes.true))

pub returns : goal.returns
returns c =
    counted-values c.args.operator c.args.operands.now _ true (search rules) (sym c.takes.ensures ∙ c.if-not-takes.false)
