-- The nodes so far have their items, and the others are as they were.
use Rattle.std.proofs.Common.{map, take, drop}
use Rattle.build_form.specs.Step.{each}
use Rattle.build_form.specs.FullBuild.{filled}
use Rattle.build_form.specs.Lent.{lent}
use Rattle.plain_build.specs.WalkView.{progress_of}
use Rattle.plain_build.specs.BasisView.{basis_of, declared_by}
use Rattle.plain_build.specs.RangesView.{ranges_of}
use Rattle.build_form.proofs.Eaching.{after}
use Rattle.build_form.proofs.Filled.{FilledSoFar}
use Rattle.plain_build.proofs.filling.+filling.Given as goal

abbrev pub invariant-fill_all-loop-i : goal.invariant-fill_all-loop-i
invariant-fill_all-loop-i g l =
    let go = filled (basis_of l.from) (ranges_of l.ranges) l.left l.fn.values in
    goal.unvisited-fill_all-loop-i g l
    × FilledSoFar (declared_by l.from) l.values l.fn.values l.i l.nodes l.fn.nodes (map lent l.walk.waiting.items)
    (each go l.fn.nodes (progress_of l.fn.walk)) (after (take l.i l.nodes) (each go (drop l.i l.fn.nodes) (progress_of l.walk)))
