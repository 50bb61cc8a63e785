use Rattle.std.proofs.Common.{◌≡◌, ◌+◌, ◌*◌, ◌/◌, arith, sym, ap, ◌∙◌, pos}
use Rattle.std.proofs.lemmas.Int.{ints}
use Rattle.std.specs.Prelude.{int_lt}
use Rattle.cell_raster.proofs.Middles.{before_more}
use Rattle.cell_raster.proofs.block.places_before.Goals as goal

pub returns-then-last-count-clause-before : goal.returns-then-last-count-clause-before
returns-then-last-count-clause-before c =
    let half = c.args.extent / 2 in
    let over = c.unsigned_abs.result in
    let is = c.unsigned_abs.ensures.value in
    let edge : c.args.edge ≡ pos ((over + half) + 1) = omega (arith, ints) in
    λ k less. before_more c.args.extent half over k c.requires.some ∙ ap (int_lt (pos (k * c.args.extent + half))) (sym edge)
