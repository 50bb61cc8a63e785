use Rattle.std.proofs.Common.{◌≡◌, ◌∙◌, ◌++◌, refl, sym, ap, to_z, of_z}
use Rattle.std.specs.Int.{w64}
use Rattle.std.proofs.lemmas.Result.{IfOk-weaker, on_ok_weaker}
use Rattle.frame_session.specs.Holds.{HoldsState}
use Rattle.session_form.specs.Outcome as outcome
use Rattle.session_form.specs.Step.{step}
use Rattle.session_form.specs.declared.line_end.LineEnd.TheVariants as line_end
use Rattle.tickers.specs.Running.{is_full, started}
use Rattle.live_session.specs.LiveStands.{text_of, end_of}
use Rattle.frame_session.proofs.StepLemmas.{distance_stays, ok_holds}
use Rattle.live_session.specs.Tweens.{set_number, started_by, tween_entry}
use Rattle.live_session.specs.declared.live.Ended.{Ended}
use Rattle.live_session.specs.declared.live.Ended.TheVariants as ended
use Rattle.live_session.proofs.LandLemmas.{tween_tried, runs_by, stays_by, tween_text, tween_end}
use Rattle.live_session.proofs.WorkLemmas.{tween_goes, tween_full}
use Rattle.live_session.proofs.live.Live.tween.Goals as goal

pub returns-in-Done-clause-state : goal.returns-in-Done-clause-state
returns-in-Done-clause-state g c r stands =
    let t = c.args.tween in
    let o : outcome.Outcome = step r.session (set_number t.node t.field (to_z w64 (of_z w64 t.from))) in
    let tried : tween_entry t r ≡ started_by o t r =
    tween_tried t r c.args.self.now.tickers c.is_full.result (set_number t.node t.field (to_z w64 (of_z w64 t.from))) stands.tweens
    (c.is_full.ensures ∙ ap (is_full c.args.self.now.tickers t.node) c.get.ensures.bytes) c.if-is_full.false
    (ap (set_number t.node t.field) (distance_stays t.from c.requires.in_range.from)) in
    let end : line_end.Done ≡ outcome.end_of o = sym c.in-Done.is ∙ c.in_ok-end.ensures.end r.session stands.session in
    let held : HoldsState c.start.new.self.session (λ v. (g.dyn-1.0.entry v).1) (outcome.state_after r.session o) =
    rw c.start.ensures.session (c.in_ok-end.ensures.state r.session stands.session) in
    on_ok_weaker c.start.result
    (λ (runs : c.start.new.self.tickers ≡ started t c.args.self.now.tickers). runs_by c.start.new.self (λ v. (g.dyn-1.0.entry v).1) o t r (tween_entry t r) tried end held
    (runs ∙ ap (started t) stands.tweens) (c.start.ensures.focus ∙ stands.focus) (c.start.ensures.raster ∙ stands.grid))
    c.start.ensures.tickers

pub returns-in-Done-clause-text : goal.returns-in-Done-clause-text
returns-in-Done-clause-text g c r stands =
    let t = c.args.tween in
    let o : outcome.Outcome = step r.session (set_number t.node t.field (to_z w64 (of_z w64 t.from))) in
    let tried : tween_entry t r ≡ started_by o t r =
    tween_tried t r c.args.self.now.tickers c.is_full.result (set_number t.node t.field (to_z w64 (of_z w64 t.from))) stands.tweens
    (c.is_full.ensures ∙ ap (is_full c.args.self.now.tickers t.node) c.get.ensures.bytes) c.if-is_full.false
    (ap (set_number t.node t.field) (distance_stays t.from c.requires.in_range.from)) in
    let text : c.set_field.new.out.items ≡ c.args.out.now.items ++ text_of (tween_entry t r) =
    tween_text o t r (tween_entry t r) c.args.out.now.items c.set_field.new.out.items tried (c.in_ok-end.ensures.text r.session stands.session) in
    on_ok_weaker c.start.result (λ (runs : c.start.new.self.tickers ≡ started t c.args.self.now.tickers). text) c.start.ensures.tickers

pub returns-in-Done-clause-end : goal.returns-in-Done-clause-end
returns-in-Done-clause-end g c r stands =
    let t = c.args.tween in
    let o : outcome.Outcome = step r.session (set_number t.node t.field (to_z w64 (of_z w64 t.from))) in
    let tried : tween_entry t r ≡ started_by o t r =
    tween_tried t r c.args.self.now.tickers c.is_full.result (set_number t.node t.field (to_z w64 (of_z w64 t.from))) stands.tweens
    (c.is_full.ensures ∙ ap (is_full c.args.self.now.tickers t.node) c.get.ensures.bytes) c.if-is_full.false
    (ap (set_number t.node t.field) (distance_stays t.from c.requires.in_range.from)) in
    let end : line_end.Done ≡ outcome.end_of o = sym c.in-Done.is ∙ c.in_ok-end.ensures.end r.session stands.session in
    IfOk-weaker c.start.result (λ e. e ≡ ended.Done) (λ e. e ≡ end_of (tween_entry t r))
    (λ (e : Ended) (is : e ≡ ended.Done). is ∙ tween_end line_end.Done o t r (tween_entry t r) tried end) c.start.ensures.end

pub returns-in-Refused-clause-state : goal.returns-in-Refused-clause-state
returns-in-Refused-clause-state g c r stands =
    let t = c.args.tween in
    let o : outcome.Outcome = step r.session (set_number t.node t.field (to_z w64 (of_z w64 t.from))) in
    let tried : tween_entry t r ≡ started_by o t r =
    tween_tried t r c.args.self.now.tickers c.is_full.result (set_number t.node t.field (to_z w64 (of_z w64 t.from))) stands.tweens
    (c.is_full.ensures ∙ ap (is_full c.args.self.now.tickers t.node) c.get.ensures.bytes) c.if-is_full.false
    (ap (set_number t.node t.field) (distance_stays t.from c.requires.in_range.from)) in
    let end : line_end.Refused c.in-Refused.why ≡ outcome.end_of o = sym c.in-Refused.is ∙ c.in_ok-end.ensures.end r.session stands.session in
    stays_by _ _ (line_end.Refused c.in-Refused.why) o t r (tween_entry t r) tried end (λ d. cc) (c.in_ok-end.ensures.state r.session stands.session)
    stands.tweens stands.focus stands.grid

pub returns-in-Refused-clause-text : goal.returns-in-Refused-clause-text
returns-in-Refused-clause-text g c r stands =
    let t = c.args.tween in
    let o : outcome.Outcome = step r.session (set_number t.node t.field (to_z w64 (of_z w64 t.from))) in
    let tried : tween_entry t r ≡ started_by o t r =
    tween_tried t r c.args.self.now.tickers c.is_full.result (set_number t.node t.field (to_z w64 (of_z w64 t.from))) stands.tweens
    (c.is_full.ensures ∙ ap (is_full c.args.self.now.tickers t.node) c.get.ensures.bytes) c.if-is_full.false
    (ap (set_number t.node t.field) (distance_stays t.from c.requires.in_range.from)) in
    tween_text o t r (tween_entry t r) c.args.out.now.items c.set_field.new.out.items tried (c.in_ok-end.ensures.text r.session stands.session)

pub returns-in-Refused-clause-end : goal.returns-in-Refused-clause-end
returns-in-Refused-clause-end g c r stands =
    let t = c.args.tween in
    let o : outcome.Outcome = step r.session (set_number t.node t.field (to_z w64 (of_z w64 t.from))) in
    let tried : tween_entry t r ≡ started_by o t r =
    tween_tried t r c.args.self.now.tickers c.is_full.result (set_number t.node t.field (to_z w64 (of_z w64 t.from))) stands.tweens
    (c.is_full.ensures ∙ ap (is_full c.args.self.now.tickers t.node) c.get.ensures.bytes) c.if-is_full.false
    (ap (set_number t.node t.field) (distance_stays t.from c.requires.in_range.from)) in
    let end : line_end.Refused c.in-Refused.why ≡ outcome.end_of o = sym c.in-Refused.is ∙ c.in_ok-end.ensures.end r.session stands.session in
    tween_end (line_end.Refused c.in-Refused.why) o t r (tween_entry t r) tried end

pub returns-in-Fault-clause-state : goal.returns-in-Fault-clause-state
returns-in-Fault-clause-state g c r stands =
    let t = c.args.tween in
    let o : outcome.Outcome = step r.session (set_number t.node t.field (to_z w64 (of_z w64 t.from))) in
    let tried : tween_entry t r ≡ started_by o t r =
    tween_tried t r c.args.self.now.tickers c.is_full.result (set_number t.node t.field (to_z w64 (of_z w64 t.from))) stands.tweens
    (c.is_full.ensures ∙ ap (is_full c.args.self.now.tickers t.node) c.get.ensures.bytes) c.if-is_full.false
    (ap (set_number t.node t.field) (distance_stays t.from c.requires.in_range.from)) in
    let end : line_end.Fault c.in-Fault.field-0 ≡ outcome.end_of o = sym c.in-Fault.is ∙ c.in_ok-end.ensures.end r.session stands.session in
    stays_by _ _ (line_end.Fault c.in-Fault.field-0) o t r (tween_entry t r) tried end (λ d. cc) (c.in_ok-end.ensures.state r.session stands.session)
    stands.tweens stands.focus stands.grid

pub returns-in-Fault-clause-text : goal.returns-in-Fault-clause-text
returns-in-Fault-clause-text g c r stands =
    let t = c.args.tween in
    let o : outcome.Outcome = step r.session (set_number t.node t.field (to_z w64 (of_z w64 t.from))) in
    let tried : tween_entry t r ≡ started_by o t r =
    tween_tried t r c.args.self.now.tickers c.is_full.result (set_number t.node t.field (to_z w64 (of_z w64 t.from))) stands.tweens
    (c.is_full.ensures ∙ ap (is_full c.args.self.now.tickers t.node) c.get.ensures.bytes) c.if-is_full.false
    (ap (set_number t.node t.field) (distance_stays t.from c.requires.in_range.from)) in
    tween_text o t r (tween_entry t r) c.args.out.now.items c.set_field.new.out.items tried (c.in_ok-end.ensures.text r.session stands.session)

pub returns-in-Fault-clause-end : goal.returns-in-Fault-clause-end
returns-in-Fault-clause-end g c r stands =
    let t = c.args.tween in
    let o : outcome.Outcome = step r.session (set_number t.node t.field (to_z w64 (of_z w64 t.from))) in
    let tried : tween_entry t r ≡ started_by o t r =
    tween_tried t r c.args.self.now.tickers c.is_full.result (set_number t.node t.field (to_z w64 (of_z w64 t.from))) stands.tweens
    (c.is_full.ensures ∙ ap (is_full c.args.self.now.tickers t.node) c.get.ensures.bytes) c.if-is_full.false
    (ap (set_number t.node t.field) (distance_stays t.from c.requires.in_range.from)) in
    let end : line_end.Fault c.in-Fault.field-0 ≡ outcome.end_of o = sym c.in-Fault.is ∙ c.in_ok-end.ensures.end r.session stands.session in
    tween_end (line_end.Fault c.in-Fault.field-0) o t r (tween_entry t r) tried end

pub returns-then-is_full-clause-work : goal.returns-then-is_full-clause-work
returns-then-is_full-clause-work g c frames r stands known =
    let t = c.args.tween in
    tween_full frames r t c.args.self.now _ _
    (ap (λ ts. is_full ts t.node t.field) (sym stands.tweens) ∙ (sym (c.is_full.ensures ∙ ap (is_full c.args.self.now.tickers t.node) c.get.ensures.bytes) ∙ c.if-is_full.true)) known

pub returns-in-Done-clause-work : goal.returns-in-Done-clause-work
returns-in-Done-clause-work g c frames r stands known =
    let t = c.args.tween in
    let o : outcome.Outcome = step r.session (set_number t.node t.field (to_z w64 (of_z w64 t.from))) in
    let tried : tween_entry t r ≡ started_by o t r =
    tween_tried t r c.args.self.now.tickers c.is_full.result (set_number t.node t.field (to_z w64 (of_z w64 t.from))) stands.tweens
    (c.is_full.ensures ∙ ap (is_full c.args.self.now.tickers t.node) c.get.ensures.bytes) c.if-is_full.false
    (ap (set_number t.node t.field) (distance_stays t.from c.requires.in_range.from)) in
    ok_holds c.start.result
    (tween_goes frames r o t c.set_field.new.session c.start.new.self _ _ _ _ tried c.start.ensures.session c.set_field.ensures.idle.1 c.set_field.ensures.idle.2 (c.in_ok-end.ensures.causes frames r.session stands.session known))

pub returns-in-Refused-clause-work : goal.returns-in-Refused-clause-work
returns-in-Refused-clause-work g c frames r stands known =
    let t = c.args.tween in
    let o : outcome.Outcome = step r.session (set_number t.node t.field (to_z w64 (of_z w64 t.from))) in
    let tried : tween_entry t r ≡ started_by o t r =
    tween_tried t r c.args.self.now.tickers c.is_full.result (set_number t.node t.field (to_z w64 (of_z w64 t.from))) stands.tweens
    (c.is_full.ensures ∙ ap (is_full c.args.self.now.tickers t.node) c.get.ensures.bytes) c.if-is_full.false
    (ap (set_number t.node t.field) (distance_stays t.from c.requires.in_range.from)) in
    tween_goes frames r o t c.set_field.new.session _ _ _ _ _ tried refl c.set_field.ensures.idle.1 c.set_field.ensures.idle.2 (c.in_ok-end.ensures.causes frames r.session stands.session known)

pub returns-in-Fault-clause-work : goal.returns-in-Fault-clause-work
returns-in-Fault-clause-work g c frames r stands known =
    let t = c.args.tween in
    let o : outcome.Outcome = step r.session (set_number t.node t.field (to_z w64 (of_z w64 t.from))) in
    let tried : tween_entry t r ≡ started_by o t r =
    tween_tried t r c.args.self.now.tickers c.is_full.result (set_number t.node t.field (to_z w64 (of_z w64 t.from))) stands.tweens
    (c.is_full.ensures ∙ ap (is_full c.args.self.now.tickers t.node) c.get.ensures.bytes) c.if-is_full.false
    (ap (set_number t.node t.field) (distance_stays t.from c.requires.in_range.from)) in
    tween_goes frames r o t c.set_field.new.session _ _ _ _ _ tried refl c.set_field.ensures.idle.1 c.set_field.ensures.idle.2 (c.in_ok-end.ensures.causes frames r.session stands.session known)
