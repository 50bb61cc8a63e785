use Rattle.std.proofs.Common.{◌∙◌, ap, sym, None}
use Rattle.fx_geom.specs.Offset.{origin}
use Rattle.screen_form.specs.Fragment.{fragment_of, node_of, rect_at}
use Rattle.semantics_tree.specs.Forming.{after, made}
use Rattle.semantics_tree.proofs.Giving.{opened_frame}
use Rattle.semantics_tree.proofs.gathering.semantics_from.Goals as goal

pub returns : goal.returns
returns g c =
    let l = g.C.LaidCursor.stands c.args.root in
    c.finish.ensures
    ∙ ap (λ h. made h 0 c.rect_at.result) (c.in_ok-gather.ensures ∙ ap (λ h. after h (fragment_of l origin)) c.new-view.ensures)
    ∙ ap (λ r. node_of 0 r None None (fragment_of l origin)) (c.rect_at.ensures ∙ ap (rect_at origin) (c.frame.ensures ∙ sym (opened_frame l)))
