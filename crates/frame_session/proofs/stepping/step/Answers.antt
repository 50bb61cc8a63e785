use Rattle.std.proofs.Common.{◌≡◌, ◌++◌, ◌∙◌, ℤ, IfOk, OnOk, OnErr, refl, ap, subst, sym, to_z, of_z}
use Rattle.std.specs.Int.{w64}
use Rattle.fx_geom.specs.declared.shapes.Offset.{Offset}
use Rattle.script_lines.specs.declared.command.Command.{Command}
use Rattle.script_lines.specs.declared.command.Command.TheVariants as command
use Rattle.session_form.specs.Changing.{resize_line, scroll_line, delegate_line, unplug_line}
use Rattle.session_form.specs.Gestures.{down_line, move_line}
use Rattle.script_lines.specs.Ranges.{HasSignedRanges}
use Rattle.session_form.specs.Outcome.{text_of, end_of}
use Rattle.session_form.specs.Seeing.{hit_line}
use Rattle.session_form.specs.Step.{step}
use Rattle.session_form.proofs.CountLemmas.{same_count, ok_count, frame_count}
use Rattle.gesture_arena.specs.StandsFor.{events_left}
use Rattle.frame_session.specs.Memory.{MayLackMemory}
use Rattle.frame_owner.specs.Frame.{KeptFrame}
use Rattle.frame_session.proofs.MemoryLemmas.{known_may}
use Rattle.frame_session.proofs.EndingLemmas.{ended_on, goes_on}
use Rattle.frame_session.proofs.StandsLemmas.{stands_by}
use Rattle.frame_session.proofs.StepLemmas.{root_quiet, ok_holds, ok_by, stands_on, distance_stays, side_stays, point_stays, known_stands, known_said, known_ends, known_quiet, known_stays, known_done}
use Rattle.frame_session.proofs.WorkLemmas.{quiet_now, quiet_goes, scroll_goes, delegate_goes, unplug_goes, frame_goes, no_frame, some_more, unbuilt, frame_built}
use Rattle.session_form.proofs.QuietLemmas.{set_quiet, scroll_quiet, resize_quiet, delegate_quiet, unplug_quiet}
use Rattle.frame_session.proofs.stepping.step.Goals as goal

pub returns-in-At-clause-end : goal.returns-in-At-clause-end
returns-in-At-clause-end g c s h = known_ends c.advance.result s _ _ c.in-At.is (c.advance.ensures.end _ s h)

pub returns-in-Set-clause-end : goal.returns-in-Set-clause-end
returns-in-Set-clause-end g c s h = known_ends c.set.result s _ _ c.in-Set.is (c.set.ensures.end _ s h)

pub returns-in-Root-clause-text : goal.returns-in-Root-clause-text
returns-in-Root-clause-text g c s h =
    let out = c.args.out.now.items in
    let P : Command → Type 0 = λ command. OnOk c.replace_root.result (out ≡ out ++ text_of (step s command)) in
    subst P (sym c.in-Root.is) (ok_holds c.replace_root.result (root_quiet c.args.held.now _ s c.in-Root.json out h))

pub returns-in-Root-clause-end : goal.returns-in-Root-clause-end
returns-in-Root-clause-end g c s h = known_ends c.replace_root.result s _ _ c.in-Root.is (c.replace_root.ensures.end _ s h)

pub returns-in-Resize-clause-state : goal.returns-in-Resize-clause-state
returns-in-Resize-clause-state g c s h =
    let inside = subst HasSignedRanges c.in-Resize.is c.requires.in_range in
    let w = side_stays c.in-Resize.w inside.0 in
    let h2 = side_stays c.in-Resize.h inside.1 in
    ended_on c.resize.result _ (stands_by _ _ s _ _ (ap (step s) c.in-Resize.is ∙ (λ i. resize_line (sym w i) (sym h2 i) s)) (c.resize.ensures.state _ s h))

pub returns-in-Resize-clause-end : goal.returns-in-Resize-clause-end
returns-in-Resize-clause-end g c s h =
    let inside = subst HasSignedRanges c.in-Resize.is c.requires.in_range in
    let w = side_stays c.in-Resize.w inside.0 in
    let h2 = side_stays c.in-Resize.h inside.1 in
    let P : Command → Type 0 = λ command. c.resize.result ≡ end_of (step s command) in
    let W : ℤ → Type 0 = λ x. c.resize.result ≡ end_of (resize_line x c.in-Resize.h s) in
    let H : ℤ → Type 0 = λ y. c.resize.result ≡ end_of (resize_line (to_z w64 (of_z w64 c.in-Resize.w)) y s) in
    subst P (sym c.in-Resize.is) (subst W w (subst H h2 (c.resize.ensures.end s)))

pub returns-in-Scroll-clause-state : goal.returns-in-Scroll-clause-state
returns-in-Scroll-clause-state g c s h =
    let inside = subst HasSignedRanges c.in-Scroll.is c.requires.in_range in
    let by = distance_stays c.in-Scroll.by inside in
    ended_on c.scroll.result _ (stands_by _ _ s _ _ (ap (step s) c.in-Scroll.is ∙ (λ i. scroll_line c.in-Scroll.node (sym by i) s)) (c.scroll.ensures.state _ s h))

pub returns-in-Scroll-clause-end : goal.returns-in-Scroll-clause-end
returns-in-Scroll-clause-end g c s h =
    let inside = subst HasSignedRanges c.in-Scroll.is c.requires.in_range in
    let by = distance_stays c.in-Scroll.by inside in
    let P : Command → Type 0 = λ command. c.scroll.result ≡ end_of (step s command) in
    let B : ℤ → Type 0 = λ d. c.scroll.result ≡ end_of (scroll_line c.in-Scroll.node d s) in
    subst P (sym c.in-Scroll.is) (subst B by (c.scroll.ensures.end _ s h))

pub returns-in-Down-clause-state : goal.returns-in-Down-clause-state
returns-in-Down-clause-state g c s h =
    let inside = subst HasSignedRanges c.in-Down.is c.requires.in_range in
    let at = point_stays c.in-Down.x c.in-Down.y inside.0 inside.1 in
    goes_on c.down.result _ (ok_by c.down.result _ _ s _ _ (ap (step s) c.in-Down.is ∙ (λ i. down_line c.in-Down.pointer (sym at i) s)) (c.down.ensures.state _ s h))

pub returns-in-Down-clause-text : goal.returns-in-Down-clause-text
returns-in-Down-clause-text g c s h =
    let inside = subst HasSignedRanges c.in-Down.is c.requires.in_range in
    let at = point_stays c.in-Down.x c.in-Down.y inside.0 inside.1 in
    let P : Command → Type 0 = λ command. OnOk c.down.result (c.down.new.out.items ≡ c.args.out.now.items ++ text_of (step s command)) in
    let A : Offset → Type 0 = λ point. OnOk c.down.result (c.down.new.out.items ≡ c.args.out.now.items ++ text_of (down_line c.in-Down.pointer point s)) in
    subst P (sym c.in-Down.is) (subst A at (c.down.ensures.text _ s h))

pub returns-in-Down-clause-end : goal.returns-in-Down-clause-end
returns-in-Down-clause-end g c s h =
    let inside = subst HasSignedRanges c.in-Down.is c.requires.in_range in
    let at = point_stays c.in-Down.x c.in-Down.y inside.0 inside.1 in
    let P : Command → Type 0 = λ command. IfOk c.down.result (λ end. end ≡ end_of (step s command)) in
    let A : Offset → Type 0 = λ point. IfOk c.down.result (λ end. end ≡ end_of (down_line c.in-Down.pointer point s)) in
    subst P (sym c.in-Down.is) (subst A at (c.down.ensures.end _ s h))

pub returns-in-Move-clause-state : goal.returns-in-Move-clause-state
returns-in-Move-clause-state g c s h =
    let inside = subst HasSignedRanges c.in-Move.is c.requires.in_range in
    let at = point_stays c.in-Move.x c.in-Move.y inside.0 inside.1 in
    goes_on c.move_to.result _ (ok_by c.move_to.result _ _ s _ _ (ap (step s) c.in-Move.is ∙ (λ i. move_line c.in-Move.pointer (sym at i) s)) (c.move_to.ensures.state _ s h))

pub returns-in-Move-clause-text : goal.returns-in-Move-clause-text
returns-in-Move-clause-text g c s h =
    let inside = subst HasSignedRanges c.in-Move.is c.requires.in_range in
    let at = point_stays c.in-Move.x c.in-Move.y inside.0 inside.1 in
    let P : Command → Type 0 = λ command. OnOk c.move_to.result (c.move_to.new.out.items ≡ c.args.out.now.items ++ text_of (step s command)) in
    let A : Offset → Type 0 = λ point. OnOk c.move_to.result (c.move_to.new.out.items ≡ c.args.out.now.items ++ text_of (move_line c.in-Move.pointer point s)) in
    subst P (sym c.in-Move.is) (subst A at (c.move_to.ensures.text _ s h))

pub returns-in-Move-clause-end : goal.returns-in-Move-clause-end
returns-in-Move-clause-end g c s h =
    let inside = subst HasSignedRanges c.in-Move.is c.requires.in_range in
    let at = point_stays c.in-Move.x c.in-Move.y inside.0 inside.1 in
    let P : Command → Type 0 = λ command. IfOk c.move_to.result (λ end. end ≡ end_of (step s command)) in
    let A : Offset → Type 0 = λ point. IfOk c.move_to.result (λ end. end ≡ end_of (move_line c.in-Move.pointer point s)) in
    subst P (sym c.in-Move.is) (subst A at (c.move_to.ensures.end _ s h))

pub returns-in-Up-clause-end : goal.returns-in-Up-clause-end
returns-in-Up-clause-end g c s h = known_ends c.up.result s _ _ c.in-Up.is (c.up.ensures.end _ s h)

pub returns-in-Cancel-clause-end : goal.returns-in-Cancel-clause-end
returns-in-Cancel-clause-end g c s h = known_ends c.cancel.result s _ _ c.in-Cancel.is (c.cancel.ensures.end _ s h)

pub returns-in_ok-hit-in-Hit-clause-text : goal.returns-in_ok-hit-in-Hit-clause-text
returns-in_ok-hit-in-Hit-clause-text g c s h =
    let inside = subst HasSignedRanges c.in-Hit.is c.requires.in_range in
    let at = point_stays c.in-Hit.x c.in-Hit.y inside.0 inside.1 in
    let P : Command → Type 0 = λ command. c.hit.new.out.items ≡ c.args.out.now.items ++ text_of (step s command) in
    let A : Offset → Type 0 = λ point. c.hit.new.out.items ≡ c.args.out.now.items ++ text_of (hit_line point s) in
    subst P (sym c.in-Hit.is) (subst A at (c.in_ok-hit-in-Hit.ensures _ s h))

pub returns-in_ok-semantics-in-Semantics-clause-text : goal.returns-in_ok-semantics-in-Semantics-clause-text
returns-in_ok-semantics-in-Semantics-clause-text g c s h =
    let P : Command → Type 0 = λ command. c.semantics.new.out.items ≡ c.args.out.now.items ++ text_of (step s command) in
    subst P (sym c.in-Semantics.is) (c.in_ok-semantics-in-Semantics.ensures _ s h)

pub returns-in-Act-clause-end : goal.returns-in-Act-clause-end
returns-in-Act-clause-end g c s h = known_ends c.act.result s _ _ c.in-Act.is (c.act.ensures.end _ s h)

pub returns-in-Frame-clause-frames : goal.returns-in-Frame-clause-frames
returns-in-Frame-clause-frames g c = frame_count c.frame.result _ _ _ _ c.in-Frame.is refl c.frame.ensures.frames

pub returns-in-At-clause-frames : goal.returns-in-At-clause-frames
returns-in-At-clause-frames g c = ok_count c.advance.result _ _ _ _ c.in-At.is refl c.advance.ensures.frames

pub returns-in-Down-clause-frames : goal.returns-in-Down-clause-frames
returns-in-Down-clause-frames g c = ok_count c.down.result _ _ _ _ c.in-Down.is refl c.down.ensures.frames

pub returns-in-Move-clause-frames : goal.returns-in-Move-clause-frames
returns-in-Move-clause-frames g c = ok_count c.move_to.result _ _ _ _ c.in-Move.is refl c.move_to.ensures.frames

pub returns-in-Up-clause-frames : goal.returns-in-Up-clause-frames
returns-in-Up-clause-frames g c = ok_count c.up.result _ _ _ _ c.in-Up.is refl c.up.ensures.frames

pub returns-in-Cancel-clause-frames : goal.returns-in-Cancel-clause-frames
returns-in-Cancel-clause-frames g c = ok_count c.cancel.result _ _ _ _ c.in-Cancel.is refl c.cancel.ensures.frames

pub returns-in-Act-clause-frames : goal.returns-in-Act-clause-frames
returns-in-Act-clause-frames g c = ok_count c.act.result _ _ _ _ c.in-Act.is refl c.act.ensures.frames

pub returns-in-Set-clause-frames : goal.returns-in-Set-clause-frames
returns-in-Set-clause-frames g c = ok_holds c.set.result (same_count _ _ _ _ c.in-Set.is refl c.set.ensures.frames)

pub returns-in-Root-clause-frames : goal.returns-in-Root-clause-frames
returns-in-Root-clause-frames g c = ok_holds c.replace_root.result (same_count _ _ _ _ c.in-Root.is refl c.replace_root.ensures.frames)

pub returns-in-Resize-clause-frames : goal.returns-in-Resize-clause-frames
returns-in-Resize-clause-frames g c = same_count _ _ _ _ c.in-Resize.is refl c.resize.ensures.frames

pub returns-in-Scroll-clause-frames : goal.returns-in-Scroll-clause-frames
returns-in-Scroll-clause-frames g c = same_count _ _ _ _ c.in-Scroll.is refl c.scroll.ensures.frames

pub returns-in-Frame-clause-state : goal.returns-in-Frame-clause-state
returns-in-Frame-clause-state g c s h = stands_on c.frame.result _ _ s _ _ (ap (step s) c.in-Frame.is) (c.frame.ensures.state s h)

pub returns-in-Frame-clause-text : goal.returns-in-Frame-clause-text
returns-in-Frame-clause-text g c s h = known_said c.frame.result s _ _ _ _ c.in-Frame.is (c.frame.ensures.text s h)

pub returns-in-Frame-clause-end : goal.returns-in-Frame-clause-end
returns-in-Frame-clause-end g c s h = known_ends c.frame.result s _ _ c.in-Frame.is (c.frame.ensures.end s h)

pub returns-in-At-clause-state : goal.returns-in-At-clause-state
returns-in-At-clause-state g c s h = goes_on c.advance.result _ (known_stands c.advance.result _ _ s _ _ c.in-At.is (c.advance.ensures.state _ s h))

pub returns-in-At-clause-text : goal.returns-in-At-clause-text
returns-in-At-clause-text g c s h = known_said c.advance.result s _ _ _ _ c.in-At.is (c.advance.ensures.text _ s h)

pub returns-in-Up-clause-state : goal.returns-in-Up-clause-state
returns-in-Up-clause-state g c s h = goes_on c.up.result _ (known_stands c.up.result _ _ s _ _ c.in-Up.is (c.up.ensures.state _ s h))

pub returns-in-Up-clause-text : goal.returns-in-Up-clause-text
returns-in-Up-clause-text g c s h = known_said c.up.result s _ _ _ _ c.in-Up.is (c.up.ensures.text _ s h)

pub returns-in-Cancel-clause-state : goal.returns-in-Cancel-clause-state
returns-in-Cancel-clause-state g c s h = goes_on c.cancel.result _ (known_stands c.cancel.result _ _ s _ _ c.in-Cancel.is (c.cancel.ensures.state _ s h))

pub returns-in-Cancel-clause-text : goal.returns-in-Cancel-clause-text
returns-in-Cancel-clause-text g c s h = known_said c.cancel.result s _ _ _ _ c.in-Cancel.is (c.cancel.ensures.text _ s h)

pub returns-in-Act-clause-state : goal.returns-in-Act-clause-state
returns-in-Act-clause-state g c s h = goes_on c.act.result _ (known_stands c.act.result _ _ s _ _ c.in-Act.is (c.act.ensures.state _ s h))

pub returns-in-Act-clause-text : goal.returns-in-Act-clause-text
returns-in-Act-clause-text g c s h = known_said c.act.result s _ _ _ _ c.in-Act.is (c.act.ensures.text _ s h)

pub returns-in-Set-clause-state : goal.returns-in-Set-clause-state
returns-in-Set-clause-state g c s h = goes_on c.set.result _ (known_stands c.set.result _ _ s _ _ c.in-Set.is (c.set.ensures.state _ s h))

pub returns-in-Root-clause-state : goal.returns-in-Root-clause-state
returns-in-Root-clause-state g c s h = goes_on c.replace_root.result _ (known_stands c.replace_root.result _ _ s _ _ c.in-Root.is (c.replace_root.ensures.state _ s h))

pub returns-in-Set-clause-text : goal.returns-in-Set-clause-text
returns-in-Set-clause-text g c s h = ok_holds c.set.result (known_quiet _ s _ _ c.in-Set.is (set_quiet c.in-Set.node _ _ s))

pub returns-in-Scroll-clause-text : goal.returns-in-Scroll-clause-text
returns-in-Scroll-clause-text g c s h = known_quiet _ s _ _ c.in-Scroll.is (scroll_quiet c.in-Scroll.node c.in-Scroll.by s)

pub returns-in-Resize-clause-text : goal.returns-in-Resize-clause-text
returns-in-Resize-clause-text g c s h = known_quiet _ s _ _ c.in-Resize.is (resize_quiet c.in-Resize.w c.in-Resize.h s)

pub returns-in-Delegate-clause-text : goal.returns-in-Delegate-clause-text
returns-in-Delegate-clause-text g c s h = ok_holds c.set_delegate.result (known_quiet _ s _ _ c.in-Delegate.is (delegate_quiet _ _ c.in-Delegate.n s))

pub returns-in-Unplug-clause-text : goal.returns-in-Unplug-clause-text
returns-in-Unplug-clause-text g c s h = ok_holds c.unplug.result (known_quiet _ s _ _ c.in-Unplug.is (unplug_quiet _ s))

pub returns-in_ok-hit-in-Hit-clause-state : goal.returns-in_ok-hit-in-Hit-clause-state
returns-in_ok-hit-in-Hit-clause-state g c s h = known_stays _ _ s _ _ c.in-Hit.is refl h

pub returns-in_ok-hit-in-Hit-clause-end : goal.returns-in_ok-hit-in-Hit-clause-end
returns-in_ok-hit-in-Hit-clause-end g c s h = known_done s _ _ c.in-Hit.is refl

pub returns-in_ok-semantics-in-Semantics-clause-state : goal.returns-in_ok-semantics-in-Semantics-clause-state
returns-in_ok-semantics-in-Semantics-clause-state g c s h = known_stays _ _ s _ _ c.in-Semantics.is refl h

pub returns-in_ok-semantics-in-Semantics-clause-end : goal.returns-in_ok-semantics-in-Semantics-clause-end
returns-in_ok-semantics-in-Semantics-clause-end g c s h = known_done s _ _ c.in-Semantics.is refl

pub returns-in_ok-states-in-States-clause-state : goal.returns-in_ok-states-in-States-clause-state
returns-in_ok-states-in-States-clause-state g c s h = known_stays _ _ s _ _ c.in-States.is refl h

pub returns-in_ok-states-in-States-clause-end : goal.returns-in_ok-states-in-States-clause-end
returns-in_ok-states-in-States-clause-end g c s h = known_done s _ _ c.in-States.is refl

pub returns-in-Frame-clause-memory : goal.returns-in-Frame-clause-memory
returns-in-Frame-clause-memory g c s h = known_may c.frame.result s _ _ c.in-Frame.is (c.frame.ensures.memory s h)

pub returns-in-At-clause-memory : goal.returns-in-At-clause-memory
returns-in-At-clause-memory g c s h = known_may c.advance.result s _ _ c.in-At.is (c.advance.ensures.memory _ s h)

pub returns-in-Set-clause-memory : goal.returns-in-Set-clause-memory
returns-in-Set-clause-memory g c s h = known_may c.set.result s _ _ c.in-Set.is (c.set.ensures.memory _ s h)

pub returns-in-Root-clause-memory : goal.returns-in-Root-clause-memory
returns-in-Root-clause-memory g c s h = known_may c.replace_root.result s _ _ c.in-Root.is (c.replace_root.ensures.memory _ s h)

pub returns-in-Down-clause-memory : goal.returns-in-Down-clause-memory
returns-in-Down-clause-memory g c s h =
    let inside = subst HasSignedRanges c.in-Down.is c.requires.in_range in
    let at = point_stays c.in-Down.x c.in-Down.y inside.0 inside.1 in
    let P : Offset → Type 0 = λ point. OnErr c.down.result (MayLackMemory (down_line c.in-Down.pointer point s)) in
    known_may c.down.result s _ _ c.in-Down.is (subst P at (c.down.ensures.memory _ s h))

pub returns-in-Move-clause-memory : goal.returns-in-Move-clause-memory
returns-in-Move-clause-memory g c s h =
    let inside = subst HasSignedRanges c.in-Move.is c.requires.in_range in
    let at = point_stays c.in-Move.x c.in-Move.y inside.0 inside.1 in
    let P : Offset → Type 0 = λ point. OnErr c.move_to.result (MayLackMemory (move_line c.in-Move.pointer point s)) in
    known_may c.move_to.result s _ _ c.in-Move.is (subst P at (c.move_to.ensures.memory _ s h))

pub returns-in-Up-clause-memory : goal.returns-in-Up-clause-memory
returns-in-Up-clause-memory g c s h = known_may c.up.result s _ _ c.in-Up.is (c.up.ensures.memory _ s h)

pub returns-in-Cancel-clause-memory : goal.returns-in-Cancel-clause-memory
returns-in-Cancel-clause-memory g c s h = known_may c.cancel.result s _ _ c.in-Cancel.is (c.cancel.ensures.memory _ s h)

pub returns-in-Act-clause-memory : goal.returns-in-Act-clause-memory
returns-in-Act-clause-memory g c s h = known_may c.act.result s _ _ c.in-Act.is (c.act.ensures.memory _ s h)

pub returns-in-Frame-clause-work : goal.returns-in-Frame-clause-work
returns-in-Frame-clause-work g c frames s h keeps known = frame_goes c.frame.result frames s _ _ _ _ _ _ c.in-Frame.is (c.frame.ensures.work frames s h keeps known)

pub returns-in-Frame-clause-idle : goal.returns-in-Frame-clause-idle
returns-in-Frame-clause-idle g c none = no_frame c.args.command.now _ c.in-Frame.is none

pub returns-in-At-clause-work : goal.returns-in-At-clause-work
returns-in-At-clause-work g c frames s h keeps known = quiet_goes c.advance.result c.lines_keep_causes.ensures.quiet frames s _ _ _ _ _ _ c.in-At.is refl known c.advance.ensures.screen

pub returns-in-Set-clause-work : goal.returns-in-Set-clause-work
returns-in-Set-clause-work g c frames s h keeps known =
    quiet_goes c.set.result c.lines_keep_causes.ensures.quiet frames s _ _ _ _ _ _ c.in-Set.is refl known (ok_holds c.set.result c.set.ensures.screen)

pub returns-in-Root-clause-work : goal.returns-in-Root-clause-work
returns-in-Root-clause-work g c frames s h keeps known =
    quiet_goes c.replace_root.result c.lines_keep_causes.ensures.quiet frames s _ _ _ _ _ _ c.in-Root.is refl known (ok_holds c.replace_root.result (ap (λ (x : KeptFrame). x.screen) c.replace_root.ensures.owner))

pub returns-in-Resize-clause-work : goal.returns-in-Resize-clause-work
returns-in-Resize-clause-work g c frames s h keeps known = quiet_now c.lines_keep_causes.ensures.quiet frames s _ _ _ _ _ _ c.in-Resize.is refl known (ap (λ (x : KeptFrame). x.screen) c.resize.ensures.owner)

pub returns-in-Scroll-clause-work : goal.returns-in-Scroll-clause-work
returns-in-Scroll-clause-work g c frames s h keeps known =
    let inside = subst HasSignedRanges c.in-Scroll.is c.requires.in_range in
    let by = distance_stays c.in-Scroll.by inside in
    scroll_goes c.what_stands_is_drawn.ensures.root c.lines_keep_causes.ensures.scrolls frames s c.args.command.now c.in-Scroll.node _ _ c.scroll.new.self _ _ _
    (c.in-Scroll.is ∙ ap (command.Scroll c.in-Scroll.node) (sym by)) (c.scroll.ensures.goes _ s h) (c.scroll.ensures.state _ s h) known

pub returns-in-Down-clause-work : goal.returns-in-Down-clause-work
returns-in-Down-clause-work g c frames s h keeps known = quiet_goes c.down.result c.lines_keep_causes.ensures.quiet frames s _ _ _ _ _ _ c.in-Down.is refl known c.down.ensures.screen

pub returns-in-Move-clause-work : goal.returns-in-Move-clause-work
returns-in-Move-clause-work g c frames s h keeps known = quiet_goes c.move_to.result c.lines_keep_causes.ensures.quiet frames s _ _ _ _ _ _ c.in-Move.is refl known c.move_to.ensures.screen

pub returns-in-Up-clause-work : goal.returns-in-Up-clause-work
returns-in-Up-clause-work g c frames s h keeps known = quiet_goes c.up.result c.lines_keep_causes.ensures.quiet frames s _ _ _ _ _ _ c.in-Up.is refl known c.up.ensures.screen

pub returns-in-Cancel-clause-work : goal.returns-in-Cancel-clause-work
returns-in-Cancel-clause-work g c frames s h keeps known = quiet_goes c.cancel.result c.lines_keep_causes.ensures.quiet frames s _ _ _ _ _ _ c.in-Cancel.is refl known c.cancel.ensures.screen

pub returns-in_ok-hit-in-Hit-clause-work : goal.returns-in_ok-hit-in-Hit-clause-work
returns-in_ok-hit-in-Hit-clause-work g c frames s h keeps known = quiet_now c.lines_keep_causes.ensures.quiet frames s _ _ c.args.held.now.owner.screen c.args.held.now.owner.screen _ _ c.in-Hit.is refl known refl

pub returns-in_ok-semantics-in-Semantics-clause-work : goal.returns-in_ok-semantics-in-Semantics-clause-work
returns-in_ok-semantics-in-Semantics-clause-work g c frames s h keeps known = quiet_now c.lines_keep_causes.ensures.quiet frames s _ _ c.args.held.now.owner.screen c.args.held.now.owner.screen _ _ c.in-Semantics.is refl known refl

pub returns-in-Act-clause-work : goal.returns-in-Act-clause-work
returns-in-Act-clause-work g c frames s h keeps known = quiet_goes c.act.result c.lines_keep_causes.ensures.quiet frames s _ _ _ _ _ _ c.in-Act.is refl known c.act.ensures.screen

pub returns-in-Delegate-clause-work : goal.returns-in-Delegate-clause-work
returns-in-Delegate-clause-work g c frames s h keeps known =
    let inside = subst HasSignedRanges c.in-Delegate.is c.requires.in_range in
    let n = distance_stays c.in-Delegate.n inside in
    delegate_goes c.set_delegate.result c.what_stands_is_drawn.ensures.root c.lines_keep_causes.ensures.delegates frames s c.args.command.now _ _ _ _ c.set_delegate.new.self _ _ _
    (c.in-Delegate.is ∙ ap (command.Delegate c.in-Delegate.name c.in-Delegate.field) (sym n)) (c.set_delegate.ensures.goes s h) (c.set_delegate.ensures.state s h) known

pub returns-in-Unplug-clause-work : goal.returns-in-Unplug-clause-work
returns-in-Unplug-clause-work g c frames s h keeps known =
    unplug_goes c.unplug.result c.what_stands_is_drawn.ensures.root c.lines_keep_causes.ensures.unplugs frames s c.args.command.now _ _ c.unplug.new.self _ _ _
    (c.in-Unplug.is ∙ ap command.Unplug (sym c.get.ensures.bytes)) (c.unplug.ensures.goes s h) (c.unplug.ensures.state s h) known

pub returns-in_ok-states-in-States-clause-work : goal.returns-in_ok-states-in-States-clause-work
returns-in_ok-states-in-States-clause-work g c frames s h keeps known = quiet_now c.lines_keep_causes.ensures.quiet frames s _ _ c.args.held.now.owner.screen c.args.held.now.owner.screen _ _ c.in-States.is refl known refl

pub returns-in-At-clause-sound : goal.returns-in-At-clause-sound
returns-in-At-clause-sound g c = goes_on c.advance.result _ c.advance.ensures.sound

pub returns-in-At-clause-none_left : goal.returns-in-At-clause-none_left
returns-in-At-clause-none_left g c = goes_on c.advance.result _ c.advance.ensures.none_left

pub returns-in-At-clause-built : goal.returns-in-At-clause-built
returns-in-At-clause-built g c s h = unbuilt c.advance.result _ _

pub returns-in-Set-clause-sound : goal.returns-in-Set-clause-sound
returns-in-Set-clause-sound g c = goes_on c.set.result _ c.set.ensures.sound

pub returns-in-Set-clause-none_left : goal.returns-in-Set-clause-none_left
returns-in-Set-clause-none_left g c = goes_on c.set.result _ (ok_holds c.set.result (ap events_left c.set.ensures.pointers ∙ c.requires.none_left))

pub returns-in-Set-clause-built : goal.returns-in-Set-clause-built
returns-in-Set-clause-built g c s h = unbuilt c.set.result _ _

pub returns-in-Root-clause-sound : goal.returns-in-Root-clause-sound
returns-in-Root-clause-sound g c = goes_on c.replace_root.result _ c.replace_root.ensures.sound

pub returns-in-Root-clause-none_left : goal.returns-in-Root-clause-none_left
returns-in-Root-clause-none_left g c = goes_on c.replace_root.result _ (ok_holds c.replace_root.result (ap events_left c.replace_root.ensures.pointers ∙ c.requires.none_left))

pub returns-in-Root-clause-built : goal.returns-in-Root-clause-built
returns-in-Root-clause-built g c s h = unbuilt c.replace_root.result _ _

pub returns-in-Down-clause-sound : goal.returns-in-Down-clause-sound
returns-in-Down-clause-sound g c = goes_on c.down.result _ c.down.ensures.sound

pub returns-in-Down-clause-none_left : goal.returns-in-Down-clause-none_left
returns-in-Down-clause-none_left g c = goes_on c.down.result _ c.down.ensures.none_left

pub returns-in-Down-clause-built : goal.returns-in-Down-clause-built
returns-in-Down-clause-built g c s h = unbuilt c.down.result _ _

pub returns-in-Move-clause-sound : goal.returns-in-Move-clause-sound
returns-in-Move-clause-sound g c = goes_on c.move_to.result _ c.move_to.ensures.sound

pub returns-in-Move-clause-none_left : goal.returns-in-Move-clause-none_left
returns-in-Move-clause-none_left g c = goes_on c.move_to.result _ c.move_to.ensures.none_left

pub returns-in-Move-clause-built : goal.returns-in-Move-clause-built
returns-in-Move-clause-built g c s h = unbuilt c.move_to.result _ _

pub returns-in-Up-clause-sound : goal.returns-in-Up-clause-sound
returns-in-Up-clause-sound g c = goes_on c.up.result _ c.up.ensures.sound

pub returns-in-Up-clause-none_left : goal.returns-in-Up-clause-none_left
returns-in-Up-clause-none_left g c = goes_on c.up.result _ c.up.ensures.none_left

pub returns-in-Up-clause-built : goal.returns-in-Up-clause-built
returns-in-Up-clause-built g c s h = unbuilt c.up.result _ _

pub returns-in-Cancel-clause-sound : goal.returns-in-Cancel-clause-sound
returns-in-Cancel-clause-sound g c = goes_on c.cancel.result _ c.cancel.ensures.sound

pub returns-in-Cancel-clause-none_left : goal.returns-in-Cancel-clause-none_left
returns-in-Cancel-clause-none_left g c = goes_on c.cancel.result _ c.cancel.ensures.none_left

pub returns-in-Cancel-clause-built : goal.returns-in-Cancel-clause-built
returns-in-Cancel-clause-built g c s h = unbuilt c.cancel.result _ _

pub returns-in-Act-clause-sound : goal.returns-in-Act-clause-sound
returns-in-Act-clause-sound g c = goes_on c.act.result _ c.act.ensures.sound

pub returns-in-Act-clause-none_left : goal.returns-in-Act-clause-none_left
returns-in-Act-clause-none_left g c = goes_on c.act.result _ c.act.ensures.none_left

pub returns-in-Act-clause-built : goal.returns-in-Act-clause-built
returns-in-Act-clause-built g c s h = unbuilt c.act.result _ _

pub returns-in-Delegate-clause-sound : goal.returns-in-Delegate-clause-sound
returns-in-Delegate-clause-sound g c = goes_on c.set_delegate.result _ c.set_delegate.ensures.sound

pub returns-in-Delegate-clause-none_left : goal.returns-in-Delegate-clause-none_left
returns-in-Delegate-clause-none_left g c = goes_on c.set_delegate.result _ (ok_holds c.set_delegate.result (ap events_left c.set_delegate.ensures.pointers ∙ c.requires.none_left))

pub returns-in-Delegate-clause-built : goal.returns-in-Delegate-clause-built
returns-in-Delegate-clause-built g c s h = unbuilt c.set_delegate.result _ _

pub returns-in-Unplug-clause-sound : goal.returns-in-Unplug-clause-sound
returns-in-Unplug-clause-sound g c = goes_on c.unplug.result _ c.unplug.ensures.sound

pub returns-in-Unplug-clause-none_left : goal.returns-in-Unplug-clause-none_left
returns-in-Unplug-clause-none_left g c = goes_on c.unplug.result _ (ok_holds c.unplug.result (ap events_left c.unplug.ensures.pointers ∙ c.requires.none_left))

pub returns-in-Unplug-clause-built : goal.returns-in-Unplug-clause-built
returns-in-Unplug-clause-built g c s h = unbuilt c.unplug.result _ _

pub returns-in-Scroll-clause-sound : goal.returns-in-Scroll-clause-sound
returns-in-Scroll-clause-sound g c = ended_on c.scroll.result _ c.scroll.ensures.sound

pub returns-in-Scroll-clause-none_left : goal.returns-in-Scroll-clause-none_left
returns-in-Scroll-clause-none_left g c = ended_on c.scroll.result _ (ap events_left c.scroll.ensures.pointers ∙ c.requires.none_left)

pub returns-in-Scroll-clause-built : goal.returns-in-Scroll-clause-built
returns-in-Scroll-clause-built g c s h = some_more _ _

pub returns-in-Resize-clause-sound : goal.returns-in-Resize-clause-sound
returns-in-Resize-clause-sound g c = ended_on c.resize.result _ c.resize.ensures.sound

pub returns-in-Resize-clause-none_left : goal.returns-in-Resize-clause-none_left
returns-in-Resize-clause-none_left g c = ended_on c.resize.result _ (ap events_left c.resize.ensures.pointers ∙ c.requires.none_left)

pub returns-in-Resize-clause-built : goal.returns-in-Resize-clause-built
returns-in-Resize-clause-built g c s h = some_more _ _

pub returns-in_ok-hit-in-Hit-clause-built : goal.returns-in_ok-hit-in-Hit-clause-built
returns-in_ok-hit-in-Hit-clause-built g c s h = some_more _ _

pub returns-in_ok-semantics-in-Semantics-clause-built : goal.returns-in_ok-semantics-in-Semantics-clause-built
returns-in_ok-semantics-in-Semantics-clause-built g c s h = some_more _ _

pub returns-in_ok-states-in-States-clause-built : goal.returns-in_ok-states-in-States-clause-built
returns-in_ok-states-in-States-clause-built g c s h = some_more _ _

pub returns-in-Frame-clause-built : goal.returns-in-Frame-clause-built
returns-in-Frame-clause-built g c s h = frame_built c.frame.result _ _ _ _ c.in-Frame.is (c.frame.ensures.built s h)

pub returns-in-Delegate-clause-state : goal.returns-in-Delegate-clause-state
returns-in-Delegate-clause-state g c s h =
    let inside = subst HasSignedRanges c.in-Delegate.is c.requires.in_range in
    let n = distance_stays c.in-Delegate.n inside in
    goes_on c.set_delegate.result _
    (ok_by c.set_delegate.result _ _ s _ _ (ap (step s) c.in-Delegate.is ∙ (λ i. delegate_line c.in-Delegate.name c.in-Delegate.field (sym n i) s)) (c.set_delegate.ensures.state s h))

pub returns-in-Unplug-clause-state : goal.returns-in-Unplug-clause-state
returns-in-Unplug-clause-state g c s h =
    goes_on c.unplug.result _ (ok_by c.unplug.result _ _ s _ _ (ap (step s) c.in-Unplug.is ∙ (λ i. unplug_line (sym c.get.ensures.bytes i) s)) (c.unplug.ensures.state s h))

pub returns-in_ok-states-in-States-clause-text : goal.returns-in_ok-states-in-States-clause-text
returns-in_ok-states-in-States-clause-text g c s h =
    let P : Command → Type 0 = λ command. c.states.new.out.items ≡ c.args.out.now.items ++ text_of (step s command) in
    subst P (sym c.in-States.is) (c.in_ok-states-in-States.ensures _ s h)
