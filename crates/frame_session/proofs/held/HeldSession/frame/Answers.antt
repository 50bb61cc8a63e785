use Rattle.std.proofs.Common.{refl, ℕ, ◌+◌, ◌≤◌, ap, subst, sym, ◌∙◌}
use Rattle.delegates.specs.Table.{meant_in}
use Rattle.build_form.specs.FaultView.{fault_of}
use Rattle.script_lines.specs.declared.command.Command.TheVariants as command
use Rattle.screen_owner.specs.Screen.{KeptScreen}
use Rattle.frame_owner.specs.Frame.{KeptFrame}
use Rattle.session_form.specs.Framing.{framed, screen_of, shown_of}
use Rattle.frame_session.specs.Works.{NodesGoOn}
use Rattle.frame_session.proofs.FrameLemmas.{framed_case, frame_state, frame_printed, frame_ended, at_most, fault_over, fault_known, fault_printed, fault_ended}
use Rattle.frame_session.proofs.StepLemmas.{ok_holds}
use Rattle.frame_session.proofs.held.HeldSession.frame.Goals as goal

pub returns-in_ok-drop_gone-in-Ok-clause-state : goal.returns-in_ok-drop_gone-in-Ok-clause-state
returns-in_ok-drop_gone-in-Ok-clause-state g c = λ s h.
    let ds = meant_in c.args.delegates.now (λ v. (g.dyn-1.0.entry v).1) in
    framed_case s c.show.new.self ds _ (c.in-Ok.ensures.state s h) (λ made next e now.
    frame_state c.drop_gone.new.self ds s made next e (c.in_ok-drop_gone-in-Ok.ensures.state ds (framed s made next) (c.in_ok-picture-in-Ok.ensures.state ds (framed s made next) now)))

pub returns-in_ok-drop_gone-in-Ok-clause-text : goal.returns-in_ok-drop_gone-in-Ok-clause-text
returns-in_ok-drop_gone-in-Ok-clause-text g c = λ s h.
    let ds = meant_in c.args.delegates.now (λ v. (g.dyn-1.0.entry v).1) in
    framed_case s c.show.new.self ds _ (c.in-Ok.ensures.state s h) (λ made next e now.
    frame_printed s made next c.args.out.now.items c.picture.new.out.items c.drop_gone.new.out.items e
    (c.in_ok-picture-in-Ok.ensures.text ds (framed s made next) (shown_of (screen_of s) made) now refl)
    (c.in_ok-drop_gone-in-Ok.ensures.text ds (framed s made next) (c.in_ok-picture-in-Ok.ensures.state ds (framed s made next) now)))

pub returns-in_ok-drop_gone-in-Ok-clause-end : goal.returns-in_ok-drop_gone-in-Ok-clause-end
returns-in_ok-drop_gone-in-Ok-clause-end g c = λ s h.
    let ds = meant_in c.args.delegates.now (λ v. (g.dyn-1.0.entry v).1) in
    framed_case s c.show.new.self ds _ (c.in-Ok.ensures.state s h) (λ made next e now. frame_ended s made next e)

pub returns-in_ok-drop_gone-in-Ok-clause-work : goal.returns-in_ok-drop_gone-in-Ok-clause-work
returns-in_ok-drop_gone-in-Ok-clause-work g c = λ frames s h versions caused.
    subst (λ (x : KeptScreen). NodesGoOn frames s command.Frame x.nodes c.args.layouts.now c.show.new.layouts c.args.paints.now c.show.new.paints) (sym (c.in_ok-drop_gone-in-Ok.ensures.screen ∙ ap (λ (x : KeptFrame). x.screen) c.picture.ensures.owner))
    (c.in-Ok.ensures.work frames s h versions caused)

pub returns-in-Err-clause-state : goal.returns-in-Err-clause-state
returns-in-Err-clause-state g c = λ s h. fault_over (fault_of c.in-Err.fault) c.end_with.result _ c.end_with.ensures.no_memory c.end_with.ensures.end

pub returns-in-Err-clause-text : goal.returns-in-Err-clause-text
returns-in-Err-clause-text g c = λ s h.
    fault_printed s (fault_of c.in-Err.fault) c.end_with.result c.args.out.now.items c.end_with.new.out.items (c.in-Err.ensures.fault s h)
    c.end_with.ensures.no_memory c.end_with.ensures.text

pub returns-in-Err-clause-end : goal.returns-in-Err-clause-end
returns-in-Err-clause-end g c = λ s h.
    fault_ended s (fault_of c.in-Err.fault) c.end_with.result (c.in-Err.ensures.fault s h) c.end_with.ensures.no_memory c.end_with.ensures.end

pub returns-in-Err-clause-work : goal.returns-in-Err-clause-work
returns-in-Err-clause-work g c = λ frames s h versions caused. fault_known (fault_of c.in-Err.fault) c.end_with.result _ c.end_with.ensures.no_memory (c.in-Err.ensures.work_at_fault frames s h versions caused)

pub returns-in-Err-clause-sound : goal.returns-in-Err-clause-sound
returns-in-Err-clause-sound g c = fault_over (fault_of c.in-Err.fault) c.end_with.result _ c.end_with.ensures.no_memory c.end_with.ensures.end

pub returns-in-Err-clause-none_left : goal.returns-in-Err-clause-none_left
returns-in-Err-clause-none_left g c = fault_over (fault_of c.in-Err.fault) c.end_with.result _ c.end_with.ensures.no_memory c.end_with.ensures.end

pub returns-in_ok-drop_gone-in-Ok-clause-built : goal.returns-in_ok-drop_gone-in-Ok-clause-built
returns-in_ok-drop_gone-in-Ok-clause-built g c = λ s h. c.in-Ok.ensures.built s h

pub returns-in-Err-clause-built : goal.returns-in-Err-clause-built
returns-in-Err-clause-built g c = λ s h. fault_known (fault_of c.in-Err.fault) c.end_with.result _ c.end_with.ensures.no_memory (c.in-Err.ensures.built_at_fault s h)

pub returns-in-Err-clause-frames : goal.returns-in-Err-clause-frames
returns-in-Err-clause-frames g c = ok_holds c.end_with.result (subst (λ (n : ℕ). n ≤ c.args.self.now.frames + 1) (sym c.in-Err.ensures.unshown) (at_most c.args.self.now.frames 1))
