use Rattle.std.proofs.Common.{Some, ap, arith, rules}
use Rattle.fx_outside.proofs.Pieces.{next_bytes}
use Rattle.fx_outside.proofs.sure.SureSourceSource.read.Goals as goal

pub returns-clause-bytes : goal.returns-clause-bytes
returns-clause-bytes c = (
  omega arith,
  search rules,
  ap Some (next_bytes c.self.inside.bytes.items c.deref.result.now _ _ c.self.inside.at c.min-count.result c.self.view_is c.deref.ensures.value c.copy_front.ensures),
)
