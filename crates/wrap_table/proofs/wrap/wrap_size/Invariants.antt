use Rattle.std.proofs.Common.{◌≡◌, drop}
use Rattle.wrap_table.specs.Pass.{IsInRange, wrap_start, wrap_end}
use Rattle.wrap_table.proofs.wrap.wrap_size.Given as goal

abbrev pub invariant-loop-size : goal.invariant-loop-size
invariant-loop-size l =
    (wrap_end l.rule l.pass (drop l.size-index l.sizes) ≡ wrap_end l.rule wrap_start l.sizes) × IsInRange l.pass.top
