use Rattle.std.proofs.Common.{option_and_then, ap, ◌∙◌}
use Rattle.frame_session.specs.declared.held.HeldSession.{HeldSession}
use Rattle.screen_owner.specs.Screen.{shown_in, laid_size}
use Rattle.frame_session.proofs.StandsLemmas.{size_shown}
use Rattle.frame_session.proofs.session.Session.shown_view.Goals as goal

pub returns : goal.returns
returns g c s h =
    c.shown_size.ensures ∙ (ap (λ (x : HeldSession). option_and_then laid_size (shown_in x.owner.screen)) c.held.ensures ∙ size_shown _ _ s.shown h.2.shown)
