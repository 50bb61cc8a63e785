use Rattle.std.proofs.Common.{◌≡◌, drop}
use Rattle.kind_rules.specs.Reading.{are_there}
use Rattle.kind_rules.proofs.reading.are_there.Given as goal

abbrev pub invariant-loop-i : goal.invariant-loop-i
invariant-loop-i g l = are_there (drop l.i (g.F.Family.frames l.family)) ≡ are_there (g.F.Family.frames l.family)
