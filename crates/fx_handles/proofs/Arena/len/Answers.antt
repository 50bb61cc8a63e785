use Rattle.std.proofs.Common.{arith}
use Rattle.fx_handles.specs.ArenaLaws.{length-le-used_count, used_count-le-length}
use Rattle.fx_handles.proofs.Arena.len.Goals as goal

pub returns : goal.returns
returns g c = rw (← c.self.view_is) (record {
  value = c.self.invariant.counted;
  at_least = λ hs distinct live. rw c.self.invariant.counted (length-le-used_count _ hs distinct live);
  at_most = λ hs all. rw c.self.invariant.counted (used_count-le-length _ hs all);
  few = omega (arith, c.self.invariant.counted, c.self.invariant.few);
})
