use Rattle.std.proofs.Common.{ap, ◌∙◌}
use Rattle.frame_session.specs.declared.held.HeldSession.{HeldSession}
use Rattle.render_readers.specs.Shown.{shown_laid}
use Rattle.screen_owner.specs.Screen.{shown_in}
use Rattle.frame_session.proofs.session.Session.render.Goals as goal

pub returns : goal.returns
returns g c s h = ap shown_laid c.render.ensures ∙ (ap (λ (x : HeldSession). shown_in x.owner.screen) c.held.ensures ∙ h.2.shown.laid)
