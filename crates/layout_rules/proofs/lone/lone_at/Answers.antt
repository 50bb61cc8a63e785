use Rattle.std.proofs.Common.{ap, ◌∙◌}
use Rattle.fx_geom.specs.declared.scales.Scale.{Scale}
use Rattle.fx_handles.specs.declared.Handle.{Handle}
use Rattle.delegates.specs.Table.{meant_in}
use Rattle.widget_model.specs.Look.{Look}
use Rattle.widget_model.specs.View.{look_in}
use Rattle.plain_tree.specs.Render.{Render}
use Rattle.layout_form.specs.Object.{setting_of}
use Rattle.kind_rules.specs.Cursor.{look_of}
use Rattle.kind_rules.specs.Lone.{lone_size}
use Rattle.render_tree.specs.Tree.{RenderTree}
use Rattle.layout_rules.specs.Places.{render_at}
use Rattle.layout_rules.proofs.lone.lone_at.Goals as goal

pub returns : goal.returns
returns g c =
    let m = meant_in c.args.table.now (λ v. (g.dyn-1.0.entry v).1) in
    let at = ap (λ (r : RenderTree). render_at r.tree c.new-cursor.result.at) c.new-cursor.ensures.tree ∙ ap (λ (k : Handle). render_at c.args.r.now.tree k) c.new-cursor.ensures.at in
    c.lone_size.ensures
    ∙ ap (λ (x : Scale). lone_size (setting_of x m) (look_in c.kind.result.now) c.args.b) c.scale.ensures
    ∙ ap (λ (l : Look). lone_size (setting_of c.args.r.now.scale m) l c.args.b) (c.kind.ensures ∙ ap (λ (r : Render). look_of r) at)
