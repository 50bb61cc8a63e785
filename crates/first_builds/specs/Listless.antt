-- Components whose bodies have no lazy list in them.
use Rattle.program_check.specs.Checked.{PlainCheckedComponent}
use Rattle.versioned_kinds.specs.Lists.{IsNoListKind}
use Rattle.versioned_kinds.specs.Templates.{BodyKindsMeet}

abbrev pub IsListlessComponent : PlainCheckedComponent → Type 0
IsListlessComponent c = BodyKindsMeet IsNoListKind c.body
