use Rattle.std.proofs.Common.{take, sym, subst, arith}
use Rattle.std.proofs.lemmas.List.{take_more, take_all}
use Rattle.tree_marks.proofs.MarkEach.{Marked, marked-more, marked-end}
use Rattle.tree_marks.proofs.marks.mark_in_turn.Goals as goal

pub loop-h-preserved : goal.loop-h-preserved
loop-h-preserved g c =
    subst (Marked g.M.Marks.marking g.M.Marks.lawful c.args.also c.args.tree.now c.mark.new.tree) (sym (take_more c.args.hs.now c.loop-h.h-index _ c.loop-h-test.true))
    (marked-more g.M.Marks.marking g.M.Marks.lawful c.args.also c.args.tree.now c.loop-h.tree c.mark.new.tree (take c.loop-h.h-index c.args.hs.now) _ c.loop-h.invariant c.mark.ensures.plain c.mark.ensures.only c.mark.ensures.absent c.mark.ensures.root c.mark.ensures.inactive
    c.mark.ensures.handles)

pub returns-clause-plain : goal.returns-clause-plain
returns-clause-plain g c = λ f is.
    marked-end g.M.Marks.marking g.M.Marks.lawful c.args.also c.args.tree.now c.loop-h.tree c.args.hs.now
    (subst (Marked g.M.Marks.marking g.M.Marks.lawful c.args.also c.args.tree.now c.loop-h.tree) (take_all c.loop-h.h-index c.args.hs.now (omega (arith, c.loop-h-test.false))) c.loop-h.invariant) f is
