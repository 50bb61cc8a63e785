use Rattle.std.proofs.Common.{rules, refl, sym, ◌∙◌}
use Rattle.fx_expr.specs.View.{set_of}
use Rattle.fx_expr.proofs.Agreeing.{agree_more}
use Rattle.fx_expr.proofs.Telling.{tells, place_differs}
use Rattle.fx_expr.proofs.sameness.same_sets.Goals as goal

pub returns-then-not-same_set : goal.returns-then-not-same_set
returns-then-not-same_set c =
    let a = c.get-sets.ensures in
    let b = c.get-others.ensures in
    tells _ (λ e. sym a ∙ e ∙ b) (λ e. a ∙ e ∙ sym b)
    (place_differs set_of c.get-sets.result.now c.get-others.result.now c.loop-i.i c.index-sets-i.result c.index-others-i.result c.loop-i-test.true c.index-sets-i.is c.index-others-i.is c.if-not-same_set.ensures)

pub loop-i-preserved : goal.loop-i-preserved
loop-i-preserved c =
    agree_more set_of c.get-sets.result.now c.get-others.result.now c.loop-i.i c.index-sets-i.result c.index-others-i.result
    c.loop-i-test.true (search rules) c.index-sets-i.is c.index-others-i.is (c.if-not-same_set.ensures.0 refl) c.loop-i.invariant
