-- What holds of each checked program, and the numbers that depend on its version.
use Rattle.std.specs.Prelude.{ℕ, ◌≤◌, length, nat_lt, if◌then◌else◌}
use Rattle.fx_geom.specs.declared.scales.Scale.{Scale}
use Rattle.fx_geom.specs.Scale.{standard_scale, fine_scale}
use Rattle.program_check.specs.declared.checked.CheckedParts.{CheckedParts}
use Rattle.program_check.specs.CheckedView.{plain_checked}
use Rattle.program_check.specs.DeclView.{HaveDecls}
use Rattle.program_check.specs.TypedChecked.{IsTypedChecked}

-- a side of a view, in u
abbrev pub IsSide : ℕ → Type 0
IsSide n = (1 ≤ n) × (n ≤ 16777216)

-- it is typed, its view and its version lie in their ranges, and each component has what it declares
pub record IsWellChecked (c : CheckedParts) : Type 0 where
  pub typed : IsTypedChecked (plain_checked c)
  pub version : (1 ≤ c.version) × (c.version ≤ 3)
  pub width : IsSide c.view.w
  pub height : IsSide c.view.h
  pub decls : HaveDecls (length c.inherited.names) c.components.items

-- the scale of a version: versions 1 and 2 have the standard one, and version 3 the fine one
abbrev pub scale_of : ℕ → Scale
scale_of version = if nat_lt version 3 then standard_scale else fine_scale
