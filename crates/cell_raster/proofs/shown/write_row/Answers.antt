use Rattle.std.proofs.Common.{◌≡◌, [], ◌∷◌, rules, sym, ap, ◌∙◌}
use Rattle.unicode_segmentation.specs.Iter.{graphemes_left}
use Rattle.cell_raster.specs.Painted.{row_written}
use Rattle.cell_raster.proofs.Written.{past_stretch, past_clusters}
use Rattle.cell_raster.proofs.shown.write_row.Goals as goal

pub returns-then-pen-to : goal.returns-then-pen-to
returns-then-pen-to c =
    let pen = c.loop-cluster.pen in
    sym (past_stretch c.args.color (graphemes_left c.loop-cluster.cluster-iterator) pen.skip pen.column c.args.to c.loop-cluster.cells c.if-pen-to.true)
    ∙ c.loop-cluster.invariant

pub loop-cluster-preserved : goal.loop-cluster-preserved
loop-cluster-preserved c =
    let pen = c.loop-cluster.pen in
    let step : graphemes_left c.loop-cluster.cluster-iterator ≡ c.in-Some.cluster.now ∷ graphemes_left c.next.new.self = search rules in
    sym (c.in_ok-pen.ensures (graphemes_left c.next.new.self))
    ∙ ap (λ gs. row_written c.args.color gs pen.skip pen.column c.args.to c.loop-cluster.cells) (sym step)
    ∙ c.loop-cluster.invariant

pub returns : goal.returns
returns c =
    let pen = c.loop-cluster.pen in
    let step : graphemes_left c.loop-cluster.cluster-iterator ≡ [] = search rules in
    sym (past_clusters c.args.color pen.skip pen.column c.args.to c.loop-cluster.cells)
    ∙ ap (λ gs. row_written c.args.color gs pen.skip pen.column c.args.to c.loop-cluster.cells) (sym step)
    ∙ c.loop-cluster.invariant
