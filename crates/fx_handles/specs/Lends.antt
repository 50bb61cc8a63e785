-- What an `Arena` ends as, where a `&mut` to one of its values is returned.
use Rattle.std.specs.Prelude.{Option}
use Rattle.std.specs.Borrow.{LendsIf, Fml, RattleType, MutBor}
use Rattle.fx_handles.specs.declared.Handle.{Handle}
use Rattle.fx_handles.specs.Arena.{Arena, with_value}
use Rattle.fx_handles.specs.contracts.Arena.{the_row}

-- once the borrow r ends, the handle has the last value written through r; at `None` the arena stays as
-- it is
abbrev pub lends_get : (T : RattleType) → MutBor (Arena T.Denot) → Handle → Option (MutBor T.Denot) → Fml
lends_get T a h r = LendsIf (the_row T) T a r (with_value a.now h) a.now
