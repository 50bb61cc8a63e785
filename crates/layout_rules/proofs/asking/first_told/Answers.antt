use Rattle.std.proofs.Common.{ap, ◌∙◌}
use Rattle.delegates.specs.Table.{meant_in}
use Rattle.fx_handles.specs.declared.Handle.{Handle}
use Rattle.render_tree.specs.Tree.{RenderTree}
use Rattle.layout_rules.specs.Places.{render_at}
use Rattle.layout_rules.proofs.Filling.{if_ok}
use Rattle.layout_rules.proofs.Readings.{first_read}
use Rattle.layout_rules.proofs.asking.first_told.Goals as goal

pub returns : goal.returns
returns g c =
    let m = meant_in c.args.table.now (λ v. (g.dyn-1.0.entry v).1) in
    let at = ap (λ (r : RenderTree). render_at r.tree c.new-cursor.result.at) c.new-cursor.ensures.tree ∙ ap (λ (k : Handle). render_at c.args.r.now.tree k) c.new-cursor.ensures.at in
    if_ok c.first_asks.result _ _ (λ asks is.
    is ∙ first_read m c.args.r.now.scale c.scale.result c.scale-2.result (render_at c.args.r.now.tree c.args.h) _ _ _ c.count.result c.in_ok-liked.liked c.args.ask c.args.told.now
    at c.scale.ensures c.scale-2.ensures c.kind.ensures c.kind-2.ensures c.count.ensures (c.in_ok-liked.ensures m)) c.first_asks.ensures
