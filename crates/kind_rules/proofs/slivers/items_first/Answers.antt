use Rattle.std.proofs.Common.{map, refl, ap, ◌∙◌, Bool, ℕ}
use Rattle.fx_geom.specs.declared.boxes.Bounds.{Bounds}
use Rattle.fx_geom.specs.Bounds.{tight}
use Rattle.sliver_layout.specs.declared.protocol.Window.{Window}
use Rattle.layout_form.specs.declared.asks.Ask.TheVariants.{AsBox}
use Rattle.layout_form.specs.SliverRule.{is_among}
use Rattle.layout_form.specs.Protocol.{ask_if, items_first}
use Rattle.kind_rules.proofs.Loops.{fills_start, fills_over, maps_on}
use Rattle.kind_rules.proofs.slivers.items_first.Goals as goal

pub loop-i-init : goal.loop-i-init
loop-i-init c = fills_start (map (λ (n : ℕ). ask_if (is_among c.window-seen.result n) (AsBox c.tight.result))) c.args.indices.now _ c.in_ok-asks.ensures.items

pub loop-i-preserved : goal.loop-i-preserved
loop-i-preserved c =
    maps_on (λ (n : ℕ). ask_if (is_among c.window-seen.result n) (AsBox c.tight.result)) c.args.indices.now c.loop-i.i-index _ _ c.loop-i.asks.items _ _ c.loop-i-test.true c.in_ok-push.ensures.items
    (c.ask_if.ensures ∙ ap (λ (t : Bool). ask_if t (AsBox c.tight.result)) c.is_among.ensures) c.loop-i.invariant

pub returns : goal.returns
returns c =
    fills_over (map (λ (n : ℕ). ask_if (is_among c.window-seen.result n) (AsBox c.tight.result))) c.args.indices.now c.loop-i.i-index c.loop-i.asks.items _ refl c.loop-i-test.false c.loop-i.invariant
    ∙ ap (λ (b : Bounds). map (λ (n : ℕ). ask_if (is_among c.window-seen.result n) (AsBox b)) c.args.indices.now) (c.tight.ensures.value ∙ ap tight c.along.ensures.value)
    ∙ ap (λ (w : Window). items_first c.args.b c.args.extent w c.args.indices.now) c.window-seen.ensures.value
