use Rattle.std.proofs.Common.{◌≤◌, ◌<◌, ◌∙◌, length, refl, sym, ap, subst, arith, if◌then◌else◌}
use Rattle.frame_session.specs.Holds.{HoldsState}
use Rattle.frame_session.specs.Works.{IsCaused}
use Rattle.session_form.specs.State.{SessionState}
use Rattle.tickers.specs.Running.{without_at}
use Rattle.frame_session.proofs.EndingLemmas.{not_both}
use Rattle.live_session.proofs.TweenLemmas.{midway_first, midway_goes, midway_loses, midway_values, midway_kept}
use Rattle.live_session.proofs.live.Live.set_values.Goals as goal

pub loop-i-init : goal.loop-i-init
loop-i-init g c = record {
  midway = λ r stands. midway_first (HoldsState c.args.self.now.session (λ v. (g.dyn-1.0.entry v).1)) c.args.self.now.tickers c.args.now r stands.session stands.tweens;
  causes = λ frames r stands known.
      midway_first (λ s. HoldsState c.args.self.now.session (λ v. (g.dyn-1.0.entry v).1) s × IsCaused frames s c.args.self.now.session) c.args.self.now.tickers c.args.now r (stands.session, known) stands.tweens;
  builds = refl;
  layouts = refl;
  paints = refl;
  text = λ r stands. refl;
  focus = refl;
  raster = refl;
  frames = omega arith;
}

pub loop-i-preserved-then-branch : goal.loop-i-preserved-then-branch
loop-i-preserved-then-branch g c =
    let ts = c.loop-i.self.tickers in
    let here : c.loop-i.i < length ts = omega (arith, c.count.ensures, c.loop-i-test.true) in
    record {
      midway = λ r stands. midway_goes (HoldsState c.loop-i.self.session (λ v. (g.dyn-1.0.entry v).1)) (HoldsState c.set_value.new.self.session (λ v. (g.dyn-1.0.entry v).1)) ts c.set_value.new.self.tickers c.loop-i.i c.args.now r here
          (c.loop-i.invariant.midway r stands) c.in_ok-set_value.ensures.session (λ s t held at. sym c.if-branch.true ∙ c.in_ok-set_value.ensures.stays s t held at)
          (c.in_ok-set_value.ensures.tickers ∙ ap (λ b. if b then ts else without_at c.loop-i.i ts) c.if-branch.true);
      causes = λ frames r stands known.
          midway_goes (λ s. HoldsState c.loop-i.self.session (λ v. (g.dyn-1.0.entry v).1) s × IsCaused frames s c.loop-i.self.session)
          (λ s. HoldsState c.set_value.new.self.session (λ v. (g.dyn-1.0.entry v).1) s × IsCaused frames s c.set_value.new.self.session) ts c.set_value.new.self.tickers c.loop-i.i c.args.now r here
          (c.loop-i.invariant.causes frames r stands known)
          (λ s t held at. (c.in_ok-set_value.ensures.session s t held.0 at, c.in_ok-set_value.ensures.causes frames s t held.0 at held.1))
          (λ s t held at. sym c.if-branch.true ∙ c.in_ok-set_value.ensures.stays s t held.0 at)
          (c.in_ok-set_value.ensures.tickers ∙ ap (λ b. if b then ts else without_at c.loop-i.i ts) c.if-branch.true);
      builds = c.set_value.ensures.idle.0 ∙ c.loop-i.invariant.builds;
      layouts = c.set_value.ensures.idle.1 ∙ c.loop-i.invariant.layouts;
      paints = c.set_value.ensures.idle.2 ∙ c.loop-i.invariant.paints;
      text = λ r stands. c.in_ok-set_value.ensures.text (c.loop-i.invariant.midway r stands).so_far (c.loop-i.invariant.midway r stands).stands ∙ c.loop-i.invariant.text r stands;
      focus = c.set_value.ensures.focus ∙ c.loop-i.invariant.focus;
      raster = c.set_value.ensures.raster ∙ c.loop-i.invariant.raster;
      frames = omega (arith, c.set_value.ensures.frames, c.loop-i.invariant.frames);
    }

pub loop-i-preserved : goal.loop-i-preserved
loop-i-preserved g c =
    let ts = c.loop-i.self.tickers in
    let here : c.loop-i.i < length ts = omega (arith, c.count.ensures, c.loop-i-test.true) in
    record {
      midway = λ r stands. midway_loses (HoldsState c.loop-i.self.session (λ v. (g.dyn-1.0.entry v).1)) (HoldsState c.set_value.new.self.session (λ v. (g.dyn-1.0.entry v).1)) ts c.set_value.new.self.tickers c.loop-i.i c.args.now r here
          (c.loop-i.invariant.midway r stands) c.in_ok-set_value.ensures.session (λ s t held at. sym c.if-branch.false ∙ c.in_ok-set_value.ensures.stays s t held at)
          (c.in_ok-set_value.ensures.tickers ∙ ap (λ b. if b then ts else without_at c.loop-i.i ts) c.if-branch.false);
      causes = λ frames r stands known.
          midway_loses (λ s. HoldsState c.loop-i.self.session (λ v. (g.dyn-1.0.entry v).1) s × IsCaused frames s c.loop-i.self.session)
          (λ s. HoldsState c.set_value.new.self.session (λ v. (g.dyn-1.0.entry v).1) s × IsCaused frames s c.set_value.new.self.session) ts c.set_value.new.self.tickers c.loop-i.i c.args.now r here
          (c.loop-i.invariant.causes frames r stands known)
          (λ s t held at. (c.in_ok-set_value.ensures.session s t held.0 at, c.in_ok-set_value.ensures.causes frames s t held.0 at held.1))
          (λ s t held at. sym c.if-branch.false ∙ c.in_ok-set_value.ensures.stays s t held.0 at)
          (c.in_ok-set_value.ensures.tickers ∙ ap (λ b. if b then ts else without_at c.loop-i.i ts) c.if-branch.false);
      builds = c.set_value.ensures.idle.0 ∙ c.loop-i.invariant.builds;
      layouts = c.set_value.ensures.idle.1 ∙ c.loop-i.invariant.layouts;
      paints = c.set_value.ensures.idle.2 ∙ c.loop-i.invariant.paints;
      text = λ r stands. c.in_ok-set_value.ensures.text (c.loop-i.invariant.midway r stands).so_far (c.loop-i.invariant.midway r stands).stands ∙ c.loop-i.invariant.text r stands;
      focus = c.set_value.ensures.focus ∙ c.loop-i.invariant.focus;
      raster = c.set_value.ensures.raster ∙ c.loop-i.invariant.raster;
      frames = omega (arith, c.set_value.ensures.frames, c.loop-i.invariant.frames);
    }

pub returns-clause-state : goal.returns-clause-state
returns-clause-state g c r stands =
    let ts = c.loop-i.self.tickers in
    let m = c.loop-i.invariant.midway r stands in
    let end : length ts ≤ c.loop-i.i = omega (arith, c.count.ensures, c.loop-i-test.false) in
    record {
      session = subst (HoldsState c.loop-i.self.session (λ v. (g.dyn-1.0.entry v).1)) (midway_values (HoldsState c.loop-i.self.session (λ v. (g.dyn-1.0.entry v).1)) ts c.loop-i.i c.args.now r end m) m.stands;
      tweens = midway_kept (HoldsState c.loop-i.self.session (λ v. (g.dyn-1.0.entry v).1)) ts c.loop-i.i c.args.now r end m;
      focus = c.loop-i.invariant.focus ∙ stands.focus;
      grid = c.loop-i.invariant.raster ∙ stands.grid;
    }

pub set_value-requires-clause-holds : goal.set_value-requires-clause-holds
set_value-requires-clause-holds g c = λ _ _.
    let m = c.loop-i.invariant.midway c.requires.holds.0 c.requires.holds.1 in
    (m.so_far, m.stands.2)

pub set_value-requires-clause-going : goal.set_value-requires-clause-going
set_value-requires-clause-going g c = not_both _ (c.loop-i.invariant.midway c.requires.holds.0 c.requires.holds.1).stands.1

pub returns-clause-causes : goal.returns-clause-causes
returns-clause-causes g c frames r stands known =
    let ts = c.loop-i.self.tickers in
    let holds : SessionState → Type 0 = λ s. HoldsState c.loop-i.self.session (λ v. (g.dyn-1.0.entry v).1) s × IsCaused frames s c.loop-i.self.session in
    let m = c.loop-i.invariant.causes frames r stands known in
    let end : length ts ≤ c.loop-i.i = omega (arith, c.count.ensures, c.loop-i-test.false) in
    subst (λ s. IsCaused frames s c.loop-i.self.session) (midway_values holds ts c.loop-i.i c.args.now r end m) m.stands.1
