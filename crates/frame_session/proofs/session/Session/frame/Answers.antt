use Rattle.frame_session.proofs.StandsLemmas.{not_true}
use Rattle.frame_session.proofs.UnrefusedLemmas.{unrefused_by}
use Rattle.frame_session.proofs.session.Session.frame.Goals as goal

pub returns-clause-unrefused : goal.returns-clause-unrefused
returns-clause-unrefused g c why e =
    unrefused_by c.line.result c.args.self.now.kept.spent why c.line.ensures.stays_spent
    (λ fresh.
    let going = not_true _ c.requires.going in
    let held = c.requires.holds fresh going in
    (held.0, c.line.ensures.end held.0 (fresh, going, held.1))) e
