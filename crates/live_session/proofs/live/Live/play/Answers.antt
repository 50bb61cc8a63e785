use Rattle.std.proofs.Common.{◌≡◌, ℤ, ◌∙◌, refl, ap, subst, to_z, of_z, rules}
use Rattle.std.specs.Fmt.{signed_decimal}
use Rattle.std.specs.Int.{w64}
use Rattle.frame_session.specs.Holds.{HoldsState}
use Rattle.frame_session.specs.Works.{IsCaused}
use Rattle.session_form.specs.Outcome as outcome
use Rattle.session_form.specs.Step.{step}
use Rattle.tickers.specs.Tween.{tween_value_of}
use Rattle.live_session.specs.Tweens.{set_number, stays}
use Rattle.live_session.proofs.TweenLemmas.{nothing_printed}
use Rattle.live_session.proofs.live.Live.play.Goals as goal

pub returns-clause-session : goal.returns-clause-session
returns-clause-session g c s held =
    let t = c.args.tween.now in
    let same : to_z w64 (of_z w64 c.value-n.result) ≡ tween_value_of t c.args.now = search rules in
    let P : ℤ → Type 0 = λ n. HoldsState c.set_field.new.session (λ v. (g.dyn-1.0.entry v).1) (outcome.state_after s (step s (set_number t.node t.field n))) in
    subst P same (c.in_ok-end.ensures.state s held)

pub returns-clause-stays : goal.returns-clause-stays
returns-clause-stays g c s held =
    let t = c.args.tween.now in
    let same : to_z w64 (of_z w64 c.value-n.result) ≡ tween_value_of t c.args.now = search rules in
    c.stays.ensures (step s (set_number t.node t.field (to_z w64 (of_z w64 c.value-n.result)))) (c.in_ok-end.ensures.end s held)
    ∙ ap (λ n. stays (step s (set_number t.node t.field n))) same

pub returns-clause-text : goal.returns-clause-text
returns-clause-text g c s held =
    let t = c.args.tween.now in
    let n : ℤ = to_z w64 (of_z w64 c.value-n.result) in
    nothing_printed s (set_number t.node t.field n) t.node t.field (signed_decimal n) c.args.out.now.items c.set_field.new.out.items refl (c.in_ok-end.ensures.text s held)

pub returns-clause-causes : goal.returns-clause-causes
returns-clause-causes g c frames s held known =
    let t = c.args.tween.now in
    let same : to_z w64 (of_z w64 c.value-n.result) ≡ tween_value_of t c.args.now = search rules in
    let P : ℤ → Type 0 = λ n. IsCaused frames (outcome.state_after s (step s (set_number t.node t.field n))) c.set_field.new.session in
    subst P same (c.in_ok-end.ensures.causes frames s held known)
