use Rattle.std.proofs.Common.{◌≡◌, sym, ap, subst, arith, rules}
use Rattle.widget_model.specs.Look.{Look}
use Rattle.widget_model.specs.View.{look_in}
use Rattle.work_roles.specs.WorkRole.{is_repaint_boundary}
use Rattle.plain_tree.specs.RenderRole.{render_role_of, is_window}
use Rattle.layout_form.specs.Fits.{FitsLayout}
use Rattle.worked_calls.specs.Grown.{is_edge, scrolls}
use Rattle.worked_calls.proofs.Growing.{node_fine, told_nothing}
use Rattle.worked_calls.proofs.builds.node.Goals.{then-number-eq9, else-number-eq9}
use Rattle.worked_calls.proofs.builds.node.Goals as goal

pub returns-clause-fine : goal.returns-clause-fine
returns-clause-fine c =
    let number = c.args.number in
    let look : Look = look_in c.in_ok-widget.widget.value.kind in
    let same : look_in c.in_ok-kind.field-0 ≡ look = ap look_in (sym c.in_ok-widget.ensures) in
    node_fine c.args.scroll number look _ c.if-number-eq9.scroll _ c.args.children.items
    (subst FitsLayout same c.in_ok-kind.ensures.fits)
    (subst (λ (l : Look). is_repaint_boundary l ≡ is_edge number) same c.in_ok-kind.ensures.edge)
    (subst (λ (l : Look). is_window (render_role_of l) ≡ scrolls number) same c.in_ok-kind.ensures.window)
    (elim c.if-number-eq9.branch [ then-number-eq9 w ↦ search rules | else-number-eq9 w ↦ search rules ])
    told_nothing
    c.requires
    (omega (arith, c.args.children.ok.0))
