-- How a child is positioned.
use Rattle.std.proofs.Common.{◌≡◌, Bool, true, false, Option, Some, None, if◌then◌else◌}
use Rattle.fx_geom.specs.declared.words.Placed.{Placed}
use Rattle.fx_geom.specs.Placed.{is_positioned}
use Rattle.layout_form.specs.StackRule.{position_of}

picked : (t : Bool) (p q : Placed) → Some p ≡ (if t then Some q else None) → Some q ≡ Some p
picked true p q e = cc
picked false p q e = cc

-- it is as it was told
pub position_is : (told : Option Placed) (p : Placed) → Some p ≡ position_of told → told ≡ Some p
position_is None p e = cc
position_is (Some q) p e = picked (is_positioned q) p q e
