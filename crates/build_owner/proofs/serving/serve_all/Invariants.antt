-- The lists so far were served.
use Rattle.std.proofs.Common.{◌≡◌}
use Rattle.build_owner.proofs.ServedAll.{ServedSoFar}
use Rattle.build_owner.proofs.serving.serve_all.Given as goal

abbrev pub invariant-loop-i : goal.invariant-loop-i
invariant-loop-i g l = ServedSoFar l.from l.drawn l.ranges l.i l.fn.t.tree l.t.tree l.fn.r.tree l.r.tree l.fn.g l.g l.fn.walk l.walk l.fn.builds l.builds l.lists.items × (l.r.scale ≡ l.fn.r.scale)
