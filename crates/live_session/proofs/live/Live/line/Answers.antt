use Rattle.std.proofs.Common.{◌≡◌, ◌++◌, IfOk, OnOk, OnErr, ap, subst, sym, arith}
use Rattle.script_lines.specs.declared.command.Command.{Command}
use Rattle.live_session.specs.EntryStep.{command_step}
use Rattle.live_session.specs.LiveStands.{LiveLands, text_of, end_of}
use Rattle.live_session.specs.RunState.{Came}
use Rattle.live_session.proofs.LiveLemmas.{command_lands, command_step-other, frames_of-other}
use Rattle.live_session.specs.Memory.{MayLackMemory}
use Rattle.session_form.specs.Step.{frames_of}
use Rattle.live_session.proofs.WorkLemmas.{came_by, none_built, one_built}
use Rattle.live_session.proofs.live.Live.line.Goals as goal

pub returns-in-Frame-clause-state : goal.returns-in-Frame-clause-state
returns-in-Frame-clause-state g c r stands =
    let P : Command → Type 0 = λ k. OnOk c.frame.result (LiveLands c.frame.new.self (λ v. (g.dyn-1.0.entry v).1) r (command_step r k)) in
    subst P (sym c.in-Frame.is) (c.frame.ensures.state r stands)

pub returns-in_default-clause-state : goal.returns-in_default-clause-state
returns-in_default-clause-state g c r stands =
    command_lands c.command.result c.command.new.self (λ v. (g.dyn-1.0.entry v).1) r c.args.command.now c.in_default.not-Frame
    (c.command.ensures.state r (frames_of-other c.args.command.now c.in_default.not-Frame) stands)

pub returns-in_default-clause-text : goal.returns-in_default-clause-text
returns-in_default-clause-text g c r stands =
    let P : Came → Type 0 = λ o. OnOk c.command.result (c.command.new.out.items ≡ c.args.out.now.items ++ text_of o) in
    subst P (sym (command_step-other r c.args.command.now c.in_default.not-Frame)) (c.command.ensures.text r stands)

pub returns-in_default-clause-end : goal.returns-in_default-clause-end
returns-in_default-clause-end g c r stands =
    let P : Came → Type 0 = λ o. IfOk c.command.result (λ end. end ≡ end_of o) in
    subst P (sym (command_step-other r c.args.command.now c.in_default.not-Frame)) (c.command.ensures.end r stands)

pub returns-in_default-clause-frames : goal.returns-in_default-clause-frames
returns-in_default-clause-frames g c =
    omega (arith, frames_of-other c.args.command.now c.in_default.not-Frame, c.command.ensures.frames)

pub returns-in-Frame-clause-memory : goal.returns-in-Frame-clause-memory
returns-in-Frame-clause-memory g c r stands =
    let P : Command → Type 0 = λ k. OnErr c.frame.result (MayLackMemory (command_step r k)) in
    subst P (sym c.in-Frame.is) (c.frame.ensures.memory r stands)

pub returns-in_default-clause-memory : goal.returns-in_default-clause-memory
returns-in_default-clause-memory g c r stands =
    let P : Came → Type 0 = λ o. OnErr c.command.result (MayLackMemory o) in
    subst P (sym (command_step-other r c.args.command.now c.in_default.not-Frame)) (c.command.ensures.memory r stands)

pub returns-in-Frame-clause-work : goal.returns-in-Frame-clause-work
returns-in-Frame-clause-work g c frames r stands known =
    came_by c.frame.result frames r _ _ _ _ c.frame.new.self _ _ _ _ (ap (command_step r) c.in-Frame.is) (ap frames_of c.in-Frame.is) (c.frame.ensures.work frames r stands known)

pub returns-in_default-clause-work : goal.returns-in_default-clause-work
returns-in_default-clause-work g c frames r stands known =
    let none = frames_of-other c.args.command.now c.in_default.not-Frame in
    came_by c.command.result frames r _ _ _ _ c.command.new.self _ _ _ _ (command_step-other r c.args.command.now c.in_default.not-Frame) none (c.command.ensures.work frames r none stands known)

pub returns-in-Frame-clause-built : goal.returns-in-Frame-clause-built
returns-in-Frame-clause-built g c r stands = one_built c.frame.result _ _ _ _ (ap frames_of c.in-Frame.is) (c.frame.ensures.built r stands)

pub returns-in_default-clause-built : goal.returns-in_default-clause-built
returns-in_default-clause-built g c r stands = none_built c.command.result _ _ _ _ (c.command.ensures.unbuilt (frames_of-other c.args.command.now c.in_default.not-Frame))
