use Rattle.std.proofs.Common.{sym, ap, ◌∙◌, option_copied, subst, arith}
use Rattle.node_tree.proofs.Walks.{climb_less}
use Rattle.tree_marks.proofs.ClimbSteps.{Rises, rises-start, rises-more, rises-steps, rises-flags}
use Rattle.tree_marks.proofs.climb.climb_of.Goals as goal

pub loop-next-init : goal.loop-next-init
loop-next-init g c = rises-start g.M.Marks.marking c.args.tree.now c.args.h c.count_laws.ensures.tree c.requires (omega (arith, c.count_laws.ensures.few))

pub loop-next-smaller : goal.loop-next-smaller
loop-next-smaller g c =
    let is = c.loop-next.invariant.is_tree in
    rw (c.in-Some.is, c.parent-next.ensures.value) (climb_less c.args.tree.now is.0 c.in-Some.at is.1)

pub loop-next-preserved : goal.loop-next-preserved
loop-next-preserved g c =
    subst (λ y. Rises g.M.Marks.marking c.args.tree.now c.args.h y c.one_more-climb.result) (sym c.parent-next.ensures.value)
    (rises-more g.M.Marks.marking c.args.tree.now c.args.h c.in-Some.at c.loop-next.next c.in-Some-value.value.now c.asks.result c.ends_mark-ends.result c.loop-next.climb c.one_more-climb.result c.loop-next.invariant c.in-Some.is
    (sym c.value.ensures ∙ ap option_copied c.in-Some-value.is) c.asks.ensures
    (λ es way. c.ends_mark-ends.ensures es (rw c.parent-next.ensures.value way)) c.one_more-climb.ensures)

pub returns-clause-steps : goal.returns-clause-steps
returns-clause-steps g c = rises-steps g.M.Marks.marking c.args.tree.now c.args.h c.loop-next.next c.loop-next.climb c.loop-next.invariant c.in_default.not-Some

pub returns-clause-flags : goal.returns-clause-flags
returns-clause-flags g c = rises-flags g.M.Marks.marking c.args.tree.now c.args.h c.loop-next.next c.loop-next.climb c.loop-next.invariant c.in_default.not-Some
