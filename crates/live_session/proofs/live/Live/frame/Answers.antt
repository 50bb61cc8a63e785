use Rattle.std.proofs.Common.{◌≡◌, ◌∙◌, ◌++◌, refl, sym, ap}
use Rattle.std.proofs.lemmas.Result.{IfOk-weaker, on_ok_weaker}
use Rattle.session_form.specs.Outcome as outcome
use Rattle.live_session.specs.EntryStep.{frame_entry}
use Rattle.live_session.specs.LiveStands.{LiveStands, text_of, end_of, ended_by}
use Rattle.live_session.specs.declared.live.Ended.{Ended}
use Rattle.live_session.specs.declared.live.Ended.TheVariants as ended
use Rattle.frame_session.proofs.EndingLemmas.{faultless_end, not_both}
use Rattle.frame_session.proofs.StepLemmas.{ok_holds}
use Rattle.live_session.proofs.LandLemmas.{set_state, done_faultless, frame_then, frame_state, settled, frame_lands, frame_faults, frame_prints, frame_ends}
use Rattle.live_session.proofs.MemoryLemmas.{on_err_any, frame_may}
use Rattle.live_session.proofs.WorkLemmas.{frame_goes, frame_goes_ok, frame_built}
use Rattle.live_session.proofs.live.Live.frame.Goals as goal

pub returns-in-Done-clause-state : goal.returns-in-Done-clause-state
returns-in-Done-clause-state g c r stands =
    let now = c.time-now.result in
    let time : now ≡ r.session.time = c.time-now.ensures r.session stands.session in
    let set : LiveStands c.set_values.new.self (λ v. (g.dyn-1.0.entry v).1) (set_state now r) = c.in_ok-set_values.ensures.state r stands in
    let end : c.of.result ≡ ended_by (outcome.end_of (frame_then now r)) =
    c.of.ensures ∙ ap ended_by (c.in_ok-frame.ensures.end (set_state now r).session set.session) in
    on_ok_weaker c.after_frame.result
    (λ (last : LiveStands c.after_frame.new.self (λ v. (g.dyn-1.0.entry v).1) (settled now r)). frame_lands c.after_frame.new.self (λ v. (g.dyn-1.0.entry v).1) now r time (sym c.in-Done.is ∙ end) last)
    (c.after_frame.ensures.state (frame_state now r)
    (record { session = faultless_end _ _ (done_faultless _ (sym c.of.ensures ∙ c.in-Done.is)) (c.in_ok-frame.ensures.state (set_state now r).session set.session); tweens = set.tweens; focus = set.focus; grid = set.grid }))

pub returns-in-Done-clause-text : goal.returns-in-Done-clause-text
returns-in-Done-clause-text g c r stands =
    let now = c.time-now.result in
    let time : now ≡ r.session.time = c.time-now.ensures r.session stands.session in
    let set : LiveStands c.set_values.new.self (λ v. (g.dyn-1.0.entry v).1) (set_state now r) = c.in_ok-set_values.ensures.state r stands in
    let text : c.frame.new.out.items ≡ c.args.out.now.items ++ text_of (frame_entry r) =
    frame_prints now r c.args.out.now.items c.set_values.new.out.items c.frame.new.out.items time (c.in_ok-set_values.ensures.text r stands)
    (c.in_ok-frame.ensures.text (set_state now r).session set.session) in
    IfOk-weaker c.after_frame.result (λ e. e ≡ ended.Done) (λ _. c.frame.new.out.items ≡ c.args.out.now.items ++ text_of (frame_entry r))
    (λ (e : Ended) (is : e ≡ ended.Done). text) c.after_frame.ensures.end

pub returns-in-Done-clause-end : goal.returns-in-Done-clause-end
returns-in-Done-clause-end g c r stands =
    let now = c.time-now.result in
    let time : now ≡ r.session.time = c.time-now.ensures r.session stands.session in
    let set : LiveStands c.set_values.new.self (λ v. (g.dyn-1.0.entry v).1) (set_state now r) = c.in_ok-set_values.ensures.state r stands in
    let end : c.of.result ≡ ended_by (outcome.end_of (frame_then now r)) =
    c.of.ensures ∙ ap ended_by (c.in_ok-frame.ensures.end (set_state now r).session set.session) in
    IfOk-weaker c.after_frame.result (λ e. e ≡ ended.Done) (λ e. e ≡ end_of (frame_entry r))
    (λ (e : Ended) (is : e ≡ ended.Done). is ∙ frame_ends now r ended.Done time (sym c.in-Done.is ∙ end)) c.after_frame.ensures.end

pub returns-in_default-clause-state : goal.returns-in_default-clause-state
returns-in_default-clause-state g c r stands =
    let now = c.time-now.result in
    let time : now ≡ r.session.time = c.time-now.ensures r.session stands.session in
    let set : LiveStands c.set_values.new.self (λ v. (g.dyn-1.0.entry v).1) (set_state now r) = c.in_ok-set_values.ensures.state r stands in
    let end : c.of.result ≡ ended_by (outcome.end_of (frame_then now r)) =
    c.of.ensures ∙ ap ended_by (c.in_ok-frame.ensures.end (set_state now r).session set.session) in
    frame_faults _ (λ v. (g.dyn-1.0.entry v).1) now r c.of.result time end c.in_default.not-Done

pub returns-in_default-clause-text : goal.returns-in_default-clause-text
returns-in_default-clause-text g c r stands =
    let now = c.time-now.result in
    let time : now ≡ r.session.time = c.time-now.ensures r.session stands.session in
    let set : LiveStands c.set_values.new.self (λ v. (g.dyn-1.0.entry v).1) (set_state now r) = c.in_ok-set_values.ensures.state r stands in
    frame_prints now r c.args.out.now.items c.set_values.new.out.items c.frame.new.out.items time (c.in_ok-set_values.ensures.text r stands)
    (c.in_ok-frame.ensures.text (set_state now r).session set.session)

pub returns-in_default-clause-end : goal.returns-in_default-clause-end
returns-in_default-clause-end g c r stands =
    let now = c.time-now.result in
    let time : now ≡ r.session.time = c.time-now.ensures r.session stands.session in
    let set : LiveStands c.set_values.new.self (λ v. (g.dyn-1.0.entry v).1) (set_state now r) = c.in_ok-set_values.ensures.state r stands in
    let end : c.of.result ≡ ended_by (outcome.end_of (frame_then now r)) =
    c.of.ensures ∙ ap ended_by (c.in_ok-frame.ensures.end (set_state now r).session set.session) in
    frame_ends now r c.of.result time end

pub returns-in_err-set_values-clause-memory : goal.returns-in_err-set_values-clause-memory
returns-in_err-set_values-clause-memory g c r stands = on_err_any _ (frame_may r)

pub returns-in_err-frame-clause-memory : goal.returns-in_err-frame-clause-memory
returns-in_err-frame-clause-memory g c r stands = on_err_any _ (frame_may r)

pub returns-in-Done-clause-memory : goal.returns-in-Done-clause-memory
returns-in-Done-clause-memory g c r stands = on_err_any c.after_frame.result (frame_may r)

pub frame-requires-clause-holds : goal.frame-requires-clause-holds
frame-requires-clause-holds g c = λ _ _.
    let held = (c.in_ok-set_values.ensures.state c.requires.holds.0 c.requires.holds.1).session in
    ((set_state c.time-now.result c.requires.holds.0).session, held.2)

pub frame-requires-clause-going : goal.frame-requires-clause-going
frame-requires-clause-going g c = not_both _ (c.in_ok-set_values.ensures.state c.requires.holds.0 c.requires.holds.1).session.1

pub returns-in-Done-clause-work : goal.returns-in-Done-clause-work
returns-in-Done-clause-work g c frames r stands known =
    let now = c.time-now.result in
    let set = c.in_ok-set_values.ensures.state r stands in
    let caused = c.in_ok-set_values.ensures.causes frames r stands known in
    frame_goes_ok c.after_frame.result frames r now c.frame.new.self c.after_frame.new.self _ _ _ _ _ _ (c.time-now.ensures r.session stands.session) c.after_frame.ensures.session
    c.set_values.ensures.idle.1 c.set_values.ensures.idle.2 (c.in_ok-frame.ensures.work frames (set_state now r).session set.session caused)

pub returns-in_default-clause-work : goal.returns-in_default-clause-work
returns-in_default-clause-work g c frames r stands known =
    let now = c.time-now.result in
    let set = c.in_ok-set_values.ensures.state r stands in
    let caused = c.in_ok-set_values.ensures.causes frames r stands known in
    frame_goes frames r now c.frame.new.self _ _ _ _ _ _ _ (c.time-now.ensures r.session stands.session) refl
    c.set_values.ensures.idle.1 c.set_values.ensures.idle.2 (c.in_ok-frame.ensures.work frames (set_state now r).session set.session caused)

pub returns-in-Done-clause-built : goal.returns-in-Done-clause-built
returns-in-Done-clause-built g c r stands =
    ok_holds c.after_frame.result (frame_built r c.time-now.result _ _ _ (c.time-now.ensures r.session stands.session) c.set_values.ensures.idle.0
    (c.in_ok-frame.ensures.built (set_state c.time-now.result r).session (c.in_ok-set_values.ensures.state r stands).session))

pub returns-in_default-clause-built : goal.returns-in_default-clause-built
returns-in_default-clause-built g c r stands =
    frame_built r c.time-now.result _ _ _ (c.time-now.ensures r.session stands.session) c.set_values.ensures.idle.0
    (c.in_ok-frame.ensures.built (set_state c.time-now.result r).session (c.in_ok-set_values.ensures.state r stands).session)
