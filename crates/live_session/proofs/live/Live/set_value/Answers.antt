use Rattle.std.proofs.Common.{sym}
use Rattle.std.proofs.lemmas.Option.{slice_get_within}
use Rattle.live_session.proofs.live.Live.set_value.Goals as goal

pub cancel_at-requires : goal.cancel_at-requires
cancel_at-requires g c = slice_get_within c.args.self.now.tickers c.args.i c.in-Some.tween.now (sym c.in-Some.ensures)
