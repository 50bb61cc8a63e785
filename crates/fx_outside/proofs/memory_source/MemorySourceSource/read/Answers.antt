use Rattle.std.proofs.Common.{Some, ap, arith, rules}
use Rattle.fx_outside.specs.Memory.{MemoryReads}
use Rattle.fx_outside.proofs.Pieces.{next_bytes}
use Rattle.fx_outside.proofs.memory_source.MemorySourceSource.read.Goals as goal

pub returns-clause-bytes : goal.returns-clause-bytes
returns-clause-bytes c = (
  omega arith,
  search rules,
  ap Some (next_bytes c.self.inside.bytes.items c.deref-2.result.now _ _ c.self.inside.at c.min-count.result (ap (λ (s : MemoryReads). s.left) c.self.view_is) c.deref-2.ensures.value c.copy_front.ensures),
)
