use Rattle.node_tree.specs.Tree.{tops_at}
use Rattle.tree_marks.specs.Marking.{at_top}
use Rattle.tree_marks.specs.Sweep.{in_slots}
use Rattle.tree_marks.proofs.SweepTrees.{sweeps-plain, sweeps-only, sweeps-absent}
use Rattle.tree_marks.proofs.SweepSlots.{slots-agree}
use Rattle.tree_marks.proofs.marks.mark_slots.Goals as goal

pub returns : goal.returns
returns g c =
    let m = g.M.Marks.marking in
    let ok = g.M.Marks.lawful in
    let q = in_slots c.args.slots.now in
    let old = c.args.tree.now in
    let new = c.sweep_tree.new.tree in
    let one = c.sweep_tree.ensures.sweeps in
    record {
      plain = sweeps-plain m ok c.args.also q c.args.hs.now old new one.0 one.1 (slots-agree old c.args.slots.now c.args.hs.now c.requires.slots c.requires.live);
      only = sweeps-only m ok c.args.also q at_top (tops_at old) old new one.0 one.1;
      absent = sweeps-absent m ok c.args.also q at_top (tops_at old) old new one.0 one.1;
      root = one.1.root;
      inactive = one.1.inactive;
      handles = one.1.handles;
    }
