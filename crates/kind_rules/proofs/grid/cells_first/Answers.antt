use Rattle.std.proofs.Common.{◌++◌, ◌∙◌, ap, refl, Some, [], ◌∷◌}
use Rattle.fx_geom.specs.declared.boxes.Bounds.{Bounds}
use Rattle.layout_form.specs.declared.asks.Ask.TheVariants.{AsBox}
use Rattle.layout_form.specs.WrapTable.{cell_bounds}
use Rattle.layout_form.specs.Protocol.{cells_first}
use Rattle.kind_rules.proofs.Lists.{cells_more}
use Rattle.kind_rules.proofs.Loops.{fills_start, fills_over}
use Rattle.kind_rules.proofs.grid.cells_first.Goals as goal

pub loop-i-preserved : goal.loop-i-preserved
loop-i-preserved c =
    cells_more c.args.columns.now c.loop-i.i c.args.told.now c.loop-i.asks.items _ _ c.loop-i-test.true
    (c.in_ok-push.ensures.items
    ∙ ap (λ (b : Bounds). c.loop-i.asks.items ++ Some (AsBox b) ∷ []) (c.cell_bounds.ensures ∙ ap cell_bounds c.column_at.ensures))
    c.loop-i.invariant

pub loop-i-init : goal.loop-i-init
loop-i-init c = fills_start (cells_first c.args.columns.now 0) c.args.told.now _ c.in_ok-asks.ensures.items

pub returns : goal.returns
returns c =
    fills_over (cells_first c.args.columns.now c.loop-i.i) c.args.told.now c.loop-i.i c.loop-i.asks.items _ refl c.loop-i-test.false c.loop-i.invariant
