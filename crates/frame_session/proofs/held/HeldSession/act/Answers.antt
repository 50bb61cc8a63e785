use Rattle.std.proofs.Common.{◌≡◌, Ok, Some, option_map, ap, sym, subst, ◌∙◌, rules}
use Rattle.gesture_arena.specs.declared.gesture.ArenaEvent.{ArenaEvent}
use Rattle.node_tree.specs.Tree.{Tree}
use Rattle.render_tree.specs.Object.{RenderObject}
use Rattle.render_readers.specs.Shown.{shown_laid}
use Rattle.screen_form.specs.Acts.{acted}
use Rattle.screen_form.specs.Semantics.{semantics_of}
use Rattle.semantics_tree.specs.View.{sem_of}
use Rattle.session_form.specs.Handlers.{after_event}
use Rattle.session_form.specs.Program.{scale_of}
use Rattle.screen_owner.specs.Screen.{shown_in}
use Rattle.frame_session.specs.StandsFor.{StandsFor}
use Rattle.frame_session.proofs.StandsLemmas.{act_done}
use Rattle.frame_session.proofs.held.HeldSession.act.Goals as goal

pub returns-in-Ok-clause-state : goal.returns-in-Ok-clause-state
returns-in-Ok-clause-state c ds s h =
    let screen = c.args.self.now.owner.screen in
    let tree = sem_of c.in-Some.root in
    let Q : ArenaEvent → Type 0 = λ e. StandsFor c.do_event.new.self ds (after_event e s) in
    let is : option_map semantics_of (shown_in screen) ≡ Some tree =
    sym (ap (λ (t : Tree RenderObject). option_map semantics_of (shown_laid t)) c.render.ensures) ∙ (sym c.in_ok-root.ensures ∙ ap (option_map sem_of) c.in-Some.is) in
    let done_by : acted tree c.args.number c.args.action ≡ Ok c.in-Ok.detector = search rules in
    act_done c.do_event.new.self ds s (scale_of s.program).cell screen tree c.args.number c.args.action c.in-Ok.detector h.shown is done_by
    (subst Q c.event_by-event.ensures (c.in_ok-do_event-in-Ok.ensures.state ds s h))
