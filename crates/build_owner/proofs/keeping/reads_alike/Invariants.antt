use Rattle.std.proofs.Common.{◌≡◌, true, take}
use Rattle.build_walk.specs.Keeping.{reads_alike}
use Rattle.build_owner.proofs.keeping.reads_alike.Given as goal

abbrev pub invariant-loop-name : goal.invariant-loop-name
invariant-loop-name l = reads_alike (take l.name-index l.names) l.was l.now ≡ true
