-- A list of the handles for which something is kept.
use Rattle.std.specs.Prelude.{◌≡◌, true, List, IsSome}
use Rattle.fx_handles.specs.declared.Handle.{Handle}
use Rattle.handle_shelf.specs.Shelf.{Shelf, kept_at}
use Rattle.kept_layers.specs.Steps.{is_listed}

-- each handle with a value stands in it
abbrev pub AreListed : {V : Type 0} → Shelf V → List Handle → Type 0
AreListed s hs = (k : Handle) → IsSome (kept_at s k) → is_listed k hs ≡ true
