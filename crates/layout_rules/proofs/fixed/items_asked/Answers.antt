use Rattle.std.proofs.Common.{refl, sym, ap, ◌∙◌, Bool, ℕ, List, map, rules, arith}
use Rattle.fx_geom.specs.declared.boxes.Bounds.{Bounds}
use Rattle.fx_geom.specs.Bounds.{tight}
use Rattle.sliver_layout.specs.declared.protocol.Window.{Window}
use Rattle.sliver_layout.specs.Lists.{window_of}
use Rattle.plain_tree.specs.declared.render.ParentData.{ParentData}
use Rattle.layout_form.specs.declared.asks.Ask.TheVariants.{AsBox}
use Rattle.layout_form.specs.SliverRule.{is_among, counted}
use Rattle.layout_form.specs.Protocol.{ask_if, items_first}
use Rattle.layout_rules.proofs.Filling.{fills_start, fills_over}
use Rattle.layout_rules.proofs.FixedLists.{counted_maps}
use Rattle.layout_rules.proofs.fixed.items_asked.Goals as goal

pub loop-i-init : goal.loop-i-init
loop-i-init c = record {
  same = λ ds is. fills_start (λ (xs : List ParentData). map (λ (n : ℕ). ask_if (is_among c.window-seen.result n) (AsBox c.tight.result)) (counted 0 xs)) ds _ c.in_ok-asks.ensures.items;
  count = search rules;
  room = search rules;
}

pub loop-i-preserved : goal.loop-i-preserved
loop-i-preserved c = record {
  same = λ ds is. let less = c.loop-i-test.true in
      counted_maps (λ (n : ℕ). ask_if (is_among c.window-seen.result n) (AsBox c.tight.result)) c.loop-i.i ds _ c.loop-i.asks.items _ _ (omega (arith, less, is)) c.push_reserved.ensures.items
      (c.ask_if.ensures ∙ ap (λ (t : Bool). ask_if t (AsBox c.tight.result)) c.is_seen.ensures) (c.loop-i.invariant.same ds is);
  count = search rules;
  room = search rules;
}

pub returns : goal.returns
returns c = λ ds n is.
    let over = c.loop-i-test.false in
    fills_over (λ (xs : List ParentData). map (λ (k : ℕ). ask_if (is_among c.window-seen.result k) (AsBox c.tight.result)) (counted c.loop-i.i xs)) ds c.loop-i.i c.loop-i.asks.items _ refl
    (omega (arith, over, is)) (c.loop-i.invariant.same ds is)
    ∙ ap (λ (b : Bounds). map (λ (k : ℕ). ask_if (is_among c.window-seen.result k) (AsBox b)) (counted 0 ds)) (c.tight.ensures.value ∙ ap tight c.along.ensures.value)
    ∙ ap (λ (w : Window). items_first c.args.b c.args.extent w (counted 0 ds)) (c.window-seen.ensures.value ∙ ap (λ (k : ℕ). window_of c.args.b c.args.extent k) (sym is))
