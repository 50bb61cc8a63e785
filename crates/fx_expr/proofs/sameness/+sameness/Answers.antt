use Rattle.std.proofs.Common.{rules, refl}
use Rattle.fx_expr.specs.declared.exprs.Expr.{the_lemmas}
use Rattle.fx_expr.specs.View.{exp_of}
use Rattle.fx_expr.specs.LevelView.{seen}
use Rattle.fx_expr.proofs.Levels.{last_tells}
use Rattle.fx_expr.proofs.Agreeing.{agree_more}
use Rattle.fx_expr.proofs.Telling.{items_tell, lists_tell, place_differs, places_agree}
use Rattle.fx_expr.proofs.sameness.+sameness.Goals as goal

pub same_expr-returns : goal.same_expr-returns
same_expr-returns t c =
    let heads = c.if-not-same_heads.ensures in
    last_tells (exp_of c.args.a.now) (exp_of c.args.b.now) (seen c.parts_of-a.result) (seen c.parts_of-b.result) c.same_operands-3.result
    c.parts_of-a.ensures.level c.parts_of-b.ensures.level
    (heads.form refl) (heads.place refl) (heads.value refl)
    (c.if-not-same_lists.ensures.0 refl) (c.if-not-same_operands.ensures.0 refl) (c.if-not-same_operands-2.ensures.0 refl)
    c.same_operands-3.ensures

pub same_items-returns-then-not-same_expr : goal.same_items-returns-then-not-same_expr
same_items-returns-then-not-same_expr t c =
    items_tell c.args.a.now c.args.b.now c.deref-e-items.result.now c.as_slice-others.result.now _ (search (rules, the_lemmas)) (search (rules, the_lemmas))
    (place_differs exp_of _ _ c.loop-i.i c.e-item.result c.index-others-i.result c.loop-i-test.true c.e-item.is c.index-others-i.is c.if-not-same_expr.ensures)

pub same_items-loop-i-preserved : goal.same_items-loop-i-preserved
same_items-loop-i-preserved t c =
    agree_more exp_of c.deref-e-items.result.now c.as_slice-others.result.now c.loop-i.i c.e-item.result c.index-others-i.result
    c.loop-i-test.true (search (rules, the_lemmas)) c.e-item.is c.index-others-i.is (c.if-not-same_expr.ensures.0 refl) c.loop-i.invariant

pub same_items-returns : goal.same_items-returns
same_items-returns t c =
    items_tell c.args.a.now c.args.b.now c.deref-e-items.result.now c.as_slice-others.result.now _ (search (rules, the_lemmas)) (search (rules, the_lemmas))
    (places_agree exp_of _ _ c.loop-i.i c.loop-i-test.false (search (rules, the_lemmas)) c.loop-i.invariant)

pub same_lists-returns-in-Some-Some : goal.same_lists-returns-in-Some-Some
same_lists-returns-in-Some-Some t c =
    lists_tell c.args.a c.args.b c.in-Some-Some.a c.in-Some-Some.b _ c.in-Some-Some.is-0 c.in-Some-Some.is-1 c.same_items.ensures
