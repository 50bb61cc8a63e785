use Rattle.std.proofs.Common.{true, ◌+◌, refl, sym, subst, arith}
use Rattle.tree_marks.proofs.MarkSteps.{Goes, goes-more, goes-on, goes-end}
use Rattle.tree_marks.proofs.marks.mark.Goals as goal

pub unreachable-requires : goal.unreachable-requires
unreachable-requires g c =
    goes-on g.M.Marks.marking g.M.Marks.lawful c.args.tree.now c.loop-i.tree c.args.h c.loop-i.next c.loop-i.below c.args.also c.loop-i.i c.climb_of-climb.result.steps c.climb_of-climb.ensures.tree c.requires c.loop-i.invariant.1 c.loop-i-test.true
    c.climb_of-climb.ensures.steps c.in_default.not-Some

pub loop-i-preserved : goal.loop-i-preserved
loop-i-preserved g c = (
  refl,
  subst (λ y. Goes g.M.Marks.marking g.M.Marks.lawful c.args.tree.now c.set_marks.new.tree c.args.h y true c.args.also (c.loop-i.i + 1)) (sym c.parent-next.ensures.value)
      (goes-more g.M.Marks.marking g.M.Marks.lawful c.args.tree.now c.loop-i.tree c.set_marks.new.tree c.args.h c.in-Some.at c.loop-i.next c.loop-i.below c.args.also _ c.is_none.result c.loop-i.i c.climb_of-climb.result.flags
      c.climb_of-climb.ensures.tree c.loop-i.invariant.1 c.in-Some.is refl c.climb_of-climb.ensures.flags (rw c.parent-next.ensures.value at c.is_none.ensures) c.set_marks.ensures.writes c.set_marks.ensures.root c.set_marks.ensures.inactive),
)

pub returns-clause-plain : goal.returns-clause-plain
returns-clause-plain g c =
    goes-end g.M.Marks.marking g.M.Marks.lawful c.args.tree.now c.loop-i.tree c.args.h c.loop-i.next c.loop-i.below c.args.also c.loop-i.i c.climb_of-climb.result.steps c.requires c.loop-i.invariant.1 (omega (arith, c.loop-i-test.false, c.loop-i.auto.i-end))
    c.climb_of-climb.ensures.steps
