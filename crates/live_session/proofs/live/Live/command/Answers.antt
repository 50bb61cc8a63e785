use Rattle.std.proofs.Common.{refl}
use Rattle.session_form.specs.Step.{step}
use Rattle.frame_session.proofs.EndingLemmas.{faultless_end, not_both}
use Rattle.live_session.proofs.LiveLemmas.{session_state}
use Rattle.live_session.proofs.MemoryLemmas.{on_err_any, command_may}
use Rattle.live_session.proofs.WorkLemmas.{command_goes}
use Rattle.live_session.proofs.live.Live.command.Goals as goal

pub returns-clause-state : goal.returns-clause-state
returns-clause-state g c r none stands =
    session_state _ _ _ r (step r.session c.args.command.now) stands
    (faultless_end c.in_ok-end.end _ (c.in_ok-end.ensures.faultless none) (c.in_ok-end.ensures.state r.session stands.session)) refl refl refl

pub returns-in_err-end-clause-memory : goal.returns-in_err-end-clause-memory
returns-in_err-end-clause-memory g c r stands =
    on_err_any _ (command_may c.line.result _ (step r.session c.args.command.now) r c.in_err-end.was (λ why small. c.line.ensures.refused r.session why small stands.session))

pub line-requires-clause-holds : goal.line-requires-clause-holds
line-requires-clause-holds g c = λ _ _. (c.requires.holds.0.session, c.requires.holds.1.session.2)

pub line-requires-clause-going : goal.line-requires-clause-going
line-requires-clause-going g c = not_both _ c.requires.holds.1.session.1

pub returns-clause-work : goal.returns-clause-work
returns-clause-work g c frames r none stands known =
    let idle = c.line.ensures.idle none in
    command_goes frames r c.args.command.now c.line.new.self _ _ _ _ _ _ _ idle.1 idle.2 refl
    (c.in_ok-end.ensures.work frames r.session stands.session known)
