use Rattle.std.proofs.Common.{true}
use Rattle.program_check.specs.CheckedView.{plain_checked}
use Rattle.element_tree.specs.Edits.{with_flag}
use Rattle.worked_calls.proofs.BothBuilds.{found, goes_on}
use Rattle.worked_calls.proofs.build_steps.Both.mark.Goals as goal

pub returns : goal.returns
returns c =
    let s = c.args.self.now in
    let u = c.mark_dirty.new.self.tree in
    let h = c.in-Some.h in
    let e = found s.t.tree h c.args.number ((c.find.ensures h).0 c.in-Some.is) in
    record {
      marks = _;
      scrolled = c.requires.scrolled;
      stands = c.lines_leave_standing_trees.ensures.marked (plain_checked c.args.checked.now) c.requires.marks s.plain c.requires.scrolled s.t.tree u s.r.tree s.g h e.value c.requires.stands
          c.number_laws.ensures.once e.is c.mark_dirty.ensures.flag;
      next_is = goes_on s.t.tree u h (with_flag true e.value) s.next (c.mark_dirty.ensures.flag.live e.value e.is) c.requires.next_is;
      typed = c.requires.typed;
      sized = c.requires.sized;
    }
