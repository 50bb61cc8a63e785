use Rattle.std.proofs.Common.{◌≡◌, ◌+◌, ◌*◌, ◌/◌, rules, ap, ◌∙◌, pos, to_z, of_z}
use mir.Syntax.{w128}
use Rattle.std.specs.Prelude.{int_lt}
use Rattle.cell_raster.proofs.Middles.{block_holds}
use Rattle.cell_raster.proofs.block.Block.of.Goals as goal

pub returns : goal.returns
returns c =
    let area = c.args.area in
    let cell = c.args.cell in
    let left : to_z w128 (of_z w128 area.left) ≡ area.left = search rules in
    let top : to_z w128 (of_z w128 area.top) ≡ area.top = search rules in
    let right : to_z w128 (of_z w128 area.right) ≡ area.right = search rules in
    let bottom : to_z w128 (of_z w128 area.bottom) ≡ area.bottom = search rules in
    record {
      holds = λ column row across down. block_holds cell area _ column row
          (c.places_before.ensures.before column across ∙ ap (int_lt (pos (column * cell.w + cell.w / 2))) left)
          (c.places_before-3.ensures.before column across ∙ ap (int_lt (pos (column * cell.w + cell.w / 2))) right)
          (c.places_before-2.ensures.before row down ∙ ap (int_lt (pos (row * cell.h + cell.h / 2))) top)
          (c.places_before-4.ensures.before row down ∙ ap (int_lt (pos (row * cell.h + cell.h / 2))) bottom);
      right = c.places_before-3.ensures.most;
      bottom = c.places_before-4.ensures.most;
    }
