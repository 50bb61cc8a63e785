use Rattle.std.proofs.Common.{sym, subst, rules}
use Rattle.std.specs.Result.{OnOk}
use Rattle.gesture_arena.specs.declared.gesture.ArenaEvent.{ArenaEvent}
use Rattle.session_form.specs.Handlers.{after_event}
use Rattle.frame_session.specs.StandsFor.{StandsFor}
use Rattle.frame_session.proofs.held.HeldSession.do_event.Goals as goal

pub returns-in-Update-clause-state : goal.returns-in-Update-clause-state
returns-in-Update-clause-state c ds s h =
    let P : ArenaEvent → Type 0 = λ e. OnOk c.run-in-Update.result (StandsFor c.run-in-Update.new.self ds (after_event e s)) in
    let k = c.run-in-Update.ensures.state ds s h in
    subst P (sym c.in-Update.is) (search (rules, k))
