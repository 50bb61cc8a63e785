use Rattle.std.proofs.Common.{◌∙◌, length}
use Rattle.gesture_arena.specs.Pointers.{is_down}
use Rattle.session_form.specs.Program.{scale_of}
use Rattle.frame_session.proofs.StandsLemmas.{ok_is_err, not_true, not_full, down_stands, down_text}
use Rattle.frame_session.proofs.held.HeldSession.down.Goals as goal

pub returns-in-Ok-clause-state : goal.returns-in-Ok-clause-state
returns-in-Ok-clause-state c ds s h =
    let scale = scale_of s.program in
    let members = c.as_slice.ensures.value ∙ c.in_ok-members.ensures ds s h in
    let up = not_true (is_down c.args.pointer s.pointers) (λ e. ok_is_err ((c.in-Ok.ensures.is_down scale s.pointers h.pointers).1 e)) in
    let few = not_full (length s.pointers) (λ e. ok_is_err ((c.in-Ok.ensures.too_many scale s.pointers h.pointers).1 (up, e))) in
    down_stands c.args.self.now c.down.new.self c.take_events.new.self ds s c.args.pointer c.args.at c.args.self.now.time c.as_slice.result.now h h.time members up few
    (c.in-Ok.ensures.stands scale s.pointers h.pointers) (c.in-Ok.ensures.events scale s.pointers h.pointers) (λ s1 k. c.in_ok-take_events-in-Ok.ensures.state ds s1 k)

pub returns-in-Ok-clause-text : goal.returns-in-Ok-clause-text
returns-in-Ok-clause-text c ds s h =
    let scale = scale_of s.program in
    let members = c.as_slice.ensures.value ∙ c.in_ok-members.ensures ds s h in
    let up = not_true (is_down c.args.pointer s.pointers) (λ e. ok_is_err ((c.in-Ok.ensures.is_down scale s.pointers h.pointers).1 e)) in
    let few = not_full (length s.pointers) (λ e. ok_is_err ((c.in-Ok.ensures.too_many scale s.pointers h.pointers).1 (up, e))) in
    down_text s c.args.pointer c.args.at c.args.self.now.time c.as_slice.result.now c.down.new.self c.args.out.now.items c.take_events.new.out.items h.time members up few
    (c.in-Ok.ensures.events scale s.pointers h.pointers) c.in_ok-take_events-in-Ok.ensures.text
