use Rattle.std.proofs.Common.{ap, ◌∙◌, Option, [], ◌∷◌}
use Rattle.plain_tree.specs.declared.laid.Frame.{Frame}
use Rattle.layout_form.specs.Frames.{extents_by, views_by}
use Rattle.kind_rules.specs.Walks.{walk_by}
use Rattle.kind_rules.proofs.Views.{views_more}
use Rattle.kind_rules.proofs.viewport.view_rest.Goals as goal

pub loop-frame-preserved : goal.loop-frame-preserved
loop-frame-preserved c =
    let axis = c.args.axis in
    let main = c.extent-main.result in
    let cross = c.extent-cross.result in
    let walk = c.loop-frame.walk in
    record {
      same = views_more axis main cross walk c.next_view-ask.result.1 c.args.frames.now c.loop-frame.frame-index c.frame-item.result c.next_view-ask.result.0
          c.loop-frame.asks.items _ _ c.loop-frame-test.true c.in_ok-push.ensures.items
          (c.next_view-ask.ensures.ask ∙ ap (λ (s : Option Frame). views_by axis main cross walk (extents_by (s ∷ []))) c.frame-item.is)
          (c.next_view-ask.ensures.walk ∙ ap (walk_by axis main cross walk) c.frame-item.is) c.loop-frame.invariant.same;
      inside = c.next_view-ask.ensures.inside;
    }
