use Rattle.std.proofs.Common.{◌||◌, refl, subst}
use Rattle.std.specs.Option.{option_to_list}
use Rattle.tree_marks.specs.declared.sweep.MetBelow.{MetBelow}
use Rattle.tree_marks.specs.Marking.{at_top}
use Rattle.tree_marks.specs.Sweep.{in_slots, SweepsTrees}
use Rattle.tree_marks.proofs.SweepTrees.{sweeps-then}
use Rattle.tree_marks.proofs.sweep.sweep_tree.Goals as goal

pub returns-clause-sweeps : goal.returns-clause-sweeps
returns-clause-sweeps g c =
    let m = g.M.Marks.marking in
    let q = in_slots c.args.slots.now in
    let a = c.sweep_root.result in
    let b = c.sweep_inactive.result in
    let mid = c.sweep_root.new.tree in
    let both : MetBelow = record { climbs = a.climbs || b.climbs; listed = a.listed || b.listed } in
    let second = subst (λ hs. SweepsTrees m c.args.also q at_top hs mid c.sweep_inactive.new.tree b) c.sweep_root.ensures.inactive c.sweep_inactive.ensures in
    (both, sweeps-then m g.M.Marks.lawful c.args.also q at_top (option_to_list c.args.tree.now.root) c.args.tree.now.inactive c.args.tree.now mid c.sweep_inactive.new.tree a b both c.sweep_root.ensures second refl refl)
