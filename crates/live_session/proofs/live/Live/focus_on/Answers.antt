use Rattle.std.proofs.Common.{◌≡◌, ◌∙◌, ◌++◌, sym, subst, IfOk, OnOk}
use Rattle.live_session.specs.LiveStands.{LiveStands, end_of, text_of}
use Rattle.live_session.specs.RunState.{Came, state_after}
use Rattle.live_session.proofs.FocusLemmas.{focus_found}
use Rattle.live_session.proofs.live.Live.focus_on.Goals as goal

pub returns-then-branch-clause-state : goal.returns-then-branch-clause-state
returns-then-branch-clause-state g c r stands =
    let P : Came → Type 0 = λ o. OnOk c.focus_to.result (LiveStands c.focus_to.new.self (λ v. (g.dyn-1.0.entry v).1) (state_after r o)) in
    subst P (focus_found c.args.node r (sym c.if-branch.true ∙ c.in_ok-is_focusable.ensures r stands)) (c.focus_to.ensures.state r stands)

pub returns-then-branch-clause-text : goal.returns-then-branch-clause-text
returns-then-branch-clause-text g c r stands =
    let P : Came → Type 0 = λ o. OnOk c.focus_to.result (c.focus_to.new.out.items ≡ c.args.out.now.items ++ text_of o) in
    subst P (focus_found c.args.node r (sym c.if-branch.true ∙ c.in_ok-is_focusable.ensures r stands)) (c.focus_to.ensures.text r stands)

pub returns-then-branch-clause-end : goal.returns-then-branch-clause-end
returns-then-branch-clause-end g c r stands =
    let P : Came → Type 0 = λ o. IfOk c.focus_to.result (λ end. end ≡ end_of o) in
    subst P (focus_found c.args.node r (sym c.if-branch.true ∙ c.in_ok-is_focusable.ensures r stands)) (c.focus_to.ensures.end r stands)
