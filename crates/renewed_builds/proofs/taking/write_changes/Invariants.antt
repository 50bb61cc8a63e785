-- The changes so far are written, and nothing else.
use Rattle.std.proofs.Common.{take}
use Rattle.renewed_builds.specs.Taking.{WritesAll, after_changes}
use Rattle.renewed_builds.proofs.taking.write_changes.Given as goal

abbrev pub invariant-loop-change : goal.invariant-loop-change
invariant-loop-change l = WritesAll (after_changes (take l.change-index l.changes)) l.fn.t.tree l.t.tree
