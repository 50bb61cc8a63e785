use Rattle.std.proofs.Common.{◌<◌, length, arith}
use Rattle.fx_handles.proofs.ArenaLemmas.{live-within}
use Rattle.fx_handles.proofs.Arena.end.Goals as goal

pub returns : goal.returns
returns g c = record {
  value = rw (← c.self.view_is) (omega (arith, c.self.inside.generations.ok.0));
  live = λ h live.
      let within : h.index < length c.self.inside.generations.items = live-within _ _ h c.self.invariant (rw c.self.view_is live) in
      omega (arith, c.self.inside.generations.ok.0);
}
