use Rattle.std.proofs.Common.{◌≡◌, ap, subst, ◌∙◌}
use Rattle.fx_handles.specs.declared.Handle.{Handle}
use Rattle.node_tree.specs.Tree.{Tree, IsTree}
use Rattle.widget_model.specs.Look.{Look}
use Rattle.widget_model.specs.View.{look_in}
use Rattle.plain_tree.specs.Render.{Render}
use Rattle.kind_rules.specs.Cursor.{look_of}
use Rattle.render_tree.specs.Object.{RenderObject}
use Rattle.render_tree.specs.Tree.{RenderTree}
use Rattle.layout_rules.specs.Heard.{list_extent}
use Rattle.layout_rules.specs.Places.{render_at}
use Rattle.layout_rules.proofs.Heard.{look_stored}
use Rattle.layout_rules.proofs.fixed.list_at.Goals as goal

pub returns-clause-stored : goal.returns-clause-stored
returns-clause-stored c =
    let t = c.args.r.now.tree in
    let is_tree : IsTree t = subst (λ (x : Tree RenderObject). IsTree x) c.tree.ensures c.count_laws.ensures.tree in
    let at = ap (λ (r : RenderTree). render_at r.tree c.new-cursor.result.at) c.new-cursor.ensures.tree ∙ ap (λ (k : Handle). render_at t k) c.new-cursor.ensures.at in
    let looks : look_in c.kind.result.now ≡ look_of (render_at t c.args.h) = c.kind.ensures ∙ ap (λ (r : Render). look_of r) at in
    c.list_extent.ensures ∙ ap (λ (l : Look). list_extent l) (looks ∙ look_stored t c.args.h is_tree c.requires)

pub returns-clause-look : goal.returns-clause-look
returns-clause-look c =
    let t = c.args.r.now.tree in
    let at = ap (λ (r : RenderTree). render_at r.tree c.new-cursor.result.at) c.new-cursor.ensures.tree ∙ ap (λ (k : Handle). render_at t k) c.new-cursor.ensures.at in
    let looks : look_in c.kind.result.now ≡ look_of (render_at t c.args.h) = c.kind.ensures ∙ ap (λ (r : Render). look_of r) at in
    c.list_extent.ensures ∙ ap (λ (l : Look). list_extent l) looks
