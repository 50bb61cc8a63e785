use Rattle.std.proofs.Common.{◌≡◌, ◌∙◌, ℕ, Option, Some, IfOk, OnOk, OnErr, refl, subst, sym}
use Rattle.live_session.specs.Focus.{pressed}
use Rattle.live_session.specs.LiveStands.{LiveStands, end_of}
use Rattle.live_session.specs.RunState.{state_after}
use Rattle.live_session.specs.Memory.{MayLackMemory}
use Rattle.live_session.specs.Works.{CameGoesOn}
use Rattle.live_session.proofs.WorkLemmas.{none_counted, refused_again}
use Rattle.live_session.specs.declared.refusal.LineRefusal.TheVariants as refusal
use Rattle.live_session.proofs.live.Live.press.Goals as goal

pub returns-clause-state : goal.returns-clause-state
returns-clause-state g c r stands =
    let P : Option ℕ → Type 0 = λ focus. OnOk c.command.result (LiveStands c.command.new.self (λ v. (g.dyn-1.0.entry v).1) (state_after r (pressed focus r))) in
    let here : Some c.in-Some.node ≡ r.focus = sym c.in-Some.is ∙ stands.focus in
    subst P here (c.command.ensures.state r refl stands)

pub returns-clause-end : goal.returns-clause-end
returns-clause-end g c r stands =
    let P : Option ℕ → Type 0 = λ focus. IfOk c.command.result (λ end. end ≡ end_of (pressed focus r)) in
    let here : Some c.in-Some.node ≡ r.focus = sym c.in-Some.is ∙ stands.focus in
    subst P here (c.command.ensures.end r stands)

pub returns-clause-memory : goal.returns-clause-memory
returns-clause-memory g c r stands =
    let P : Option ℕ → Type 0 = λ focus. OnErr c.command.result (MayLackMemory (pressed focus r)) in
    let here : Some c.in-Some.node ≡ r.focus = sym c.in-Some.is ∙ stands.focus in
    subst P here (c.command.ensures.memory r stands)

pub returns-clause-work : goal.returns-clause-work
returns-clause-work g c frames r stands known =
    let P : Option ℕ → Type 0 = λ focus. OnOk c.command.result (CameGoesOn frames r (pressed focus r) 0 c.command.new.self c.args.layouts.now c.command.new.layouts c.args.paints.now c.command.new.paints) in
    let here : Some c.in-Some.node ≡ r.focus = sym c.in-Some.is ∙ stands.focus in
    subst P here (c.command.ensures.work frames r refl stands known)

pub returns-in_default-clause-work : goal.returns-in_default-clause-work
returns-in_default-clause-work g c frames r stands known =
    let P : Option ℕ → Type 0 = λ focus. CameGoesOn frames r (pressed focus r) 0 c.args.self.now c.args.layouts.now c.args.layouts.now c.args.paints.now c.args.paints.now in
    subst P (sym c.in_default.is ∙ stands.focus) (none_counted frames r _ c.args.self.now _ _ _ _ refl refl (refused_again frames r c.args.self.now known refusal.NoFocus))
