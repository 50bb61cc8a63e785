use Rattle.std.proofs.Common.{◌∙◌, ◌+◌, ap, nat_lt}
use Rattle.std.proofs.lemmas.List.Elements.{All-filter, All-same}
use Rattle.tickers.specs.Running.{unfinished}
use Rattle.tickers.specs.Tween.{IsInRange}
use Rattle.live_session.proofs.live.Live.after_frame.Goals as goal

pub invariant_of-self : goal.invariant_of-self
invariant_of-self g c = record {
  in_range = All-same IsInRange _ _ c.finish.ensures
      (All-filter (λ t. nat_lt c.args.now (t.start + t.ms)) IsInRange c.args.self.now.tickers c.args.self.now.in_range);
}

pub returns-clause-state : goal.returns-clause-state
returns-clause-state g c r stands =
    c.in_ok-keep_focus.ensures.state (record r { tweens = unfinished c.args.now r.tweens })
    (record {
      session = stands.session;
      tweens = c.finish.ensures ∙ ap (unfinished c.args.now) stands.tweens;
      focus = stands.focus;
      grid = stands.grid;
    })
