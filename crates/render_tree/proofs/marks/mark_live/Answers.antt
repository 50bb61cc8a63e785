use Rattle.std.proofs.Common.{false}
use Rattle.render_tree.proofs.Marking.{sets_one}
use Rattle.render_tree.proofs.marks.mark_live.Goals as goal

pub returns-then-contains : goal.returns-then-contains
returns-then-contains g c = record {
  live = λ live.
      sets_one g.M.Marks.marking g.M.Marks.lawful false c.args.h c.args.tree.now c.mark.new.tree c.mark.ensures.plain c.mark.ensures.only c.mark.ensures.absent c.mark.ensures.root c.mark.ensures.inactive c.mark.ensures.handles;
  absent = λ dead. absurd (dead (c.contains.ensures.0 c.if-contains.true));
}
