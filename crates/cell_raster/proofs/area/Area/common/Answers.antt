use Rattle.std.proofs.Common.{rules, ◌≡◌, to_z, of_z}
use mir.Syntax.{w128}
use Rattle.std.specs.Int.{int_min, int_max}
use Rattle.cell_raster.proofs.area.Area.common.Goals as goal

pub returns : goal.returns
returns c =
    let left : to_z w128 (of_z w128 c.greater.result) ≡ int_max c.args.self.left c.args.other.left = search rules in
    let top : to_z w128 (of_z w128 c.greater-2.result) ≡ int_max c.args.self.top c.args.other.top = search rules in
    let right : to_z w128 (of_z w128 c.less.result) ≡ int_min c.args.self.right c.args.other.right = search rules in
    let bottom : to_z w128 (of_z w128 c.less-2.result) ≡ int_min c.args.self.bottom c.args.other.bottom = search rules in
    λ i. record { left = left i; top = top i; right = right i; bottom = bottom i }
