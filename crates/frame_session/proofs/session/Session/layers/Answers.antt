use Rattle.std.proofs.Common.{ap, ◌∙◌}
use Rattle.frame_session.specs.declared.held.HeldSession.{HeldSession}
use Rattle.screen_owner.specs.Screen.{layer_in}
use Rattle.frame_session.proofs.StandsLemmas.{layers_shown}
use Rattle.frame_session.proofs.session.Session.layers.Goals as goal

pub returns : goal.returns
returns g c s h = layers_shown _ _ s.shown c.layer.result h.2.shown (c.layer.ensures ∙ ap (λ (x : HeldSession). layer_in x.owner.screen) c.held.ensures)
