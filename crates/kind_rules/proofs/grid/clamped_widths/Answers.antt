use Rattle.std.proofs.Common.{◌≡◌, map, refl, get_or, rules}
use Rattle.std.specs.Prelude.{pos}
use Rattle.flex_layout.specs.Stack.{extent_from}
use Rattle.kind_rules.proofs.Loops.{fills_start, fills_over, maps_on}
use Rattle.kind_rules.proofs.grid.clamped_widths.Goals as goal

pub loop-width-init : goal.loop-width-init
loop-width-init c = fills_start (map extent_from) c.args.widths.now _ c.in_ok-columns.ensures.items

pub loop-width-preserved : goal.loop-width-preserved
loop-width-preserved c =
    let is : c.column_of.result ≡ extent_from (get_or c.args.widths.now c.loop-width.width-index (pos 0)) = search rules in
    maps_on extent_from c.args.widths.now c.loop-width.width-index _ _ c.loop-width.columns.items _ _ c.loop-width-test.true c.in_ok-push.ensures.items
    is c.loop-width.invariant

pub returns : goal.returns
returns c =
    fills_over (map extent_from) c.args.widths.now c.loop-width.width-index c.loop-width.columns.items _ refl c.loop-width-test.false c.loop-width.invariant
