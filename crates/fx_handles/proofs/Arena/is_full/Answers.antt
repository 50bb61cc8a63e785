use Rattle.std.proofs.Common.{arith}
use Rattle.std.proofs.lemmas.Bool.{leb-true, le-leb}
use Rattle.fx_handles.proofs.ArenaLemmas.{filled_is}
use Rattle.fx_handles.proofs.Arena.is_full.Goals as goal

pub returns : goal.returns
returns g c =
    rw (← c.self.view_is) (
      λ e. let le = leb-true _ _ e in omega (arith, filled_is c.self.inside.slots.slots),
      λ many. le-leb _ _ (omega (arith, filled_is c.self.inside.slots.slots)),
    )
