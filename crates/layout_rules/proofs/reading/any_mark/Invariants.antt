use Rattle.std.proofs.Common.{◌≡◌, drop}
use Rattle.layout_rules.specs.Reads.{marks_at}
use Rattle.layout_rules.proofs.reading.any_mark.Given as goal

abbrev pub invariant-loop-child : goal.invariant-loop-child
invariant-loop-child l = marks_at l.r.tree (drop l.child-index l.children) ≡ marks_at l.r.tree l.children
