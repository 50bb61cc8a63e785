use Rattle.std.proofs.Common.{◌∙◌, option_and_then, ap}
use Rattle.render_tree.specs.Readings.{scroll_of}
use Rattle.render_tree.specs.Tree.{object_at}
use Rattle.frame_owner.specs.Frame.{KeptFrame}
use Rattle.frame_owner.specs.Nodes.{window_at}
use Rattle.frame_owner.proofs.Windows.{scroll_read, no_window}
use Rattle.frame_owner.proofs.owner.FrameOwner.scroll_at.Goals as goal

pub returns-in-Some : goal.returns-in-Some
returns-in-Some c = λ p ds marks tree now.
    scroll_read c.args.self.now.screen.nodes c.args.number c.viewport.result c.in-Some.k (window_at tree c.args.number) c.scroll.result c.in-Some.is c.in-Some.ensures.live
    (λ offset view. c.viewport.ensures.there p ds marks tree offset now view) (c.viewport.ensures.none p ds marks tree now)
    (c.scroll.ensures ∙ ap (λ (x : KeptFrame). option_and_then scroll_of (object_at x.screen.nodes c.in-Some.k)) c.self.view_is)

pub returns-in-None : goal.returns-in-None
returns-in-None c = λ p ds marks tree now.
    no_window c.args.self.now.screen.nodes c.args.number c.viewport.result (window_at tree c.args.number) c.in-None.is (λ offset view. c.viewport.ensures.there p ds marks tree offset now view)
