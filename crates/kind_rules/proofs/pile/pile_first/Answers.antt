use Rattle.std.proofs.Common.{map, refl, ap, ◌∙◌, Bool}
use Rattle.fx_geom.specs.declared.boxes.Bounds.{Bounds}
use Rattle.plain_tree.specs.declared.render.ParentData.{ParentData}
use Rattle.layout_form.specs.declared.asks.Ask.TheVariants.{AsBox}
use Rattle.layout_form.specs.StackRule.{is_free}
use Rattle.layout_form.specs.Protocol.{ask_if, asks_where}
use Rattle.kind_rules.proofs.Loops.{fills_start, fills_over, maps_on}
use Rattle.kind_rules.proofs.pile.pile_first.Goals as goal

pub loop-d-init : goal.loop-d-init
loop-d-init c = fills_start (map (λ (d : ParentData). ask_if (is_free d) (AsBox c.free_bounds.result))) c.args.told.now _ c.in_ok-asks.ensures.items

pub loop-d-preserved : goal.loop-d-preserved
loop-d-preserved c =
    maps_on (λ (d : ParentData). ask_if (is_free d) (AsBox c.free_bounds.result)) c.args.told.now c.loop-d.d-index _ _ c.loop-d.asks.items _ _ c.loop-d-test.true c.in_ok-push.ensures.items
    (c.ask_if.ensures ∙ ap (λ (t : Bool). ask_if t (AsBox c.free_bounds.result)) c.is_free.ensures) c.loop-d.invariant

pub returns : goal.returns
returns c =
    fills_over (map (λ (d : ParentData). ask_if (is_free d) (AsBox c.free_bounds.result))) c.args.told.now c.loop-d.d-index c.loop-d.asks.items _ refl c.loop-d-test.false c.loop-d.invariant
    ∙ ap (λ (b : Bounds). asks_where is_free (AsBox b) c.args.told.now) c.free_bounds.ensures
