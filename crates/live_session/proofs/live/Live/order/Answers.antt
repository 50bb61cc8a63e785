use Rattle.std.proofs.Common.{◌∙◌}
use Rattle.render_readers.specs.Shown.{shown_laid}
use Rattle.live_session.proofs.FocusLemmas.{order_shown}
use Rattle.live_session.proofs.live.Live.order.Goals as goal

pub returns : goal.returns
returns g c r stands = c.in_ok-order.ensures.ok ∙ order_shown r.session.shown (shown_laid c.render.result.now.tree) (c.render.ensures r.session stands.session)
