use Rattle.std.proofs.Common.{[], sym, ap, ◌+◌}
use Rattle.program_check.specs.CheckedView.{plain_checked}
use Rattle.worked_calls.proofs.build_steps.Both.new.Goals as goal

pub returns : goal.returns
returns c =
    let t = c.new.ensures in
    let r = c.new-r.ensures in
    record {
      marks = [];
      scrolled = λ _. 0;
      stands = c.new_trees_stand.ensures (plain_checked c.args.checked.now) c.new.result.tree c.new-r.result.tree c.new-2.result t.root t.plain r.root r.plain c.new-2.ensures.recorded;
      next_is = sym (ap (λ n. n + 1) t.made);
      typed = c.in_ok-root.ensures.typed;
      sized = c.in_ok-root.ensures.sized;
    }
