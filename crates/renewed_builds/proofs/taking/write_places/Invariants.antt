-- The elements so far have their places, and nothing else changes.
use Rattle.std.proofs.Common.{take}
use Rattle.renewed_builds.specs.Taking.{WritesAll, after_moves}
use Rattle.renewed_builds.proofs.taking.write_places.Given as goal

abbrev pub invariant-loop-moved : goal.invariant-loop-moved
invariant-loop-moved l = WritesAll (after_moves (take l.moved-index l.moves)) l.fn.t.tree l.t.tree
