use Rattle.std.proofs.Common.{◌≡◌, ◌-◌, ◌≤◌, length}
use Rattle.frame_session.specs.Holds.{HoldsState, frames_shown}
use Rattle.frame_session.specs.Works.{IsCaused}
use Rattle.work_sets.specs.Before.{Frames}
use Rattle.live_session.specs.LiveStands.{LiveStands}
use Rattle.live_session.specs.RunState.{RunState}
use Rattle.live_session.proofs.TweenLemmas.{Midway}
use Rattle.live_session.proofs.live.Live.set_values.Given as goal

abbrev pub invariant-loop-i : goal.invariant-loop-i
invariant-loop-i g l = record {
  midway : (r : RunState) → LiveStands l.fn.self (λ v. (g.dyn-1.0.entry v).1) r
      → Midway (HoldsState l.self.session (λ v. (g.dyn-1.0.entry v).1)) l.self.tickers l.i l.now r;
  causes : (frames : Frames) (r : RunState) → LiveStands l.fn.self (λ v. (g.dyn-1.0.entry v).1) r → IsCaused frames r.session l.fn.self.session
      → Midway (λ s. HoldsState l.self.session (λ v. (g.dyn-1.0.entry v).1) s × IsCaused frames s l.self.session) l.self.tickers l.i l.now r;
  builds : l.builds ≡ l.fn.builds;
  layouts : l.layouts ≡ l.fn.layouts;
  paints : l.paints ≡ l.fn.paints;
  text : (r : RunState) → LiveStands l.fn.self (λ v. (g.dyn-1.0.entry v).1) r → l.out.items ≡ l.fn.out.items;
  focus : l.self.focus ≡ l.fn.self.focus;
  raster : l.self.raster ≡ l.fn.self.raster;
  frames : frames_shown l.self.session ≤ frames_shown l.fn.self.session;
}

abbrev pub decreases-loop-i : goal.decreases-loop-i
decreases-loop-i g l = length l.self.tickers - l.i
