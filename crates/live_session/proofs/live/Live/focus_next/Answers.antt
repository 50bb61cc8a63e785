use Rattle.std.proofs.Common.{◌≡◌, ℕ, ◌∙◌, ◌++◌, ap, subst, Option, OnOk}
use Rattle.screen_form.specs.FocusSteps.{next_of}
use Rattle.live_session.specs.Focus.{order_in, focused}
use Rattle.live_session.specs.LiveStands.{LiveStands, text_of}
use Rattle.live_session.specs.RunState.{state_after}
use Rattle.live_session.proofs.live.Live.focus_next.Goals as goal

pub returns-clause-state : goal.returns-clause-state
returns-clause-state g c r stands =
    let same : c.next.result ≡ next_of (order_in r.session.shown) r.focus =
    c.next.ensures.next ∙ ap (λ o. next_of o c.args.self.now.focus) (c.as_slice.ensures.value ∙ c.in_ok-order.ensures r stands)
    ∙ ap (next_of (order_in r.session.shown)) stands.focus in
    let P : Option ℕ → Type 0 = λ x. OnOk c.focus_to.result (LiveStands c.focus_to.new.self (λ v. (g.dyn-1.0.entry v).1) (state_after r (focused x r))) in
    subst P same (c.focus_to.ensures.state r stands)

pub returns-clause-text : goal.returns-clause-text
returns-clause-text g c r stands =
    let same : c.next.result ≡ next_of (order_in r.session.shown) r.focus =
    c.next.ensures.next ∙ ap (λ o. next_of o c.args.self.now.focus) (c.as_slice.ensures.value ∙ c.in_ok-order.ensures r stands)
    ∙ ap (next_of (order_in r.session.shown)) stands.focus in
    let P : Option ℕ → Type 0 = λ x. OnOk c.focus_to.result (c.focus_to.new.out.items ≡ c.args.out.now.items ++ text_of (focused x r)) in
    subst P same (c.focus_to.ensures.text r stands)
