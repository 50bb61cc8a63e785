use Rattle.std.proofs.Common.{◌≡◌, ℕ, ◌+◌, true, Vec, Option, None, IfSome, refl, subst, sym, ◌∙◌, rules}
use Rattle.std.proofs.lemmas.Result.{err_from_is_err_and}
use Rattle.std.specs.declared.alloc.Global.{Global}
use Rattle.std.specs.declared.rc.Rc.{Rc}
use Rattle.delegates.specs.Table.{meant_in}
use Rattle.fx_geom.specs.declared.shapes.Size.{Size}
use Rattle.layout_owner.specs.Roots.{IsAskedAs}
use Rattle.render_tree.specs.Plain.{root_tree}
use Rattle.program_check.specs.TypedChecked.{IsTypedChecked}
use Rattle.widget_model.specs.Sized.{IsSized}
use Rattle.widget_model.specs.Typed.{IsTypedWidget}
use Rattle.widget_model.specs.View.{shared}
use Rattle.widget_model.specs.declared.widgets.Widget.{Widget}
use Rattle.program_check.specs.CheckedView.{plain_checked}
use Rattle.template_build.specs.Program.{declarations_of}
use Rattle.build_form.specs.FaultView.{fault_of}
use Rattle.build_form.proofs.Outcomes.{some_map}
use Rattle.session_form.specs.Program.{scale_of}
use Rattle.frame_session.proofs.LastLemmas.{last_by, known_root}
use Rattle.frame_session.proofs.FrameLemmas.{BuildLaws, too_large, stands_here, built_same, framed_stands, held_stands, sound_framed, root_here, works_here, fault_here, few_built, some_all, at_most}
use Rattle.frame_session.proofs.FrameCounts.{FrameLaws, FirstLaws, frame_went, fault_went, fault_counts, kept_on}
use Rattle.frame_session.proofs.held.HeldSession.show.Goals as goal

pub returns-in_default-clause-fault : goal.returns-in_default-clause-fault
returns-in_default-clause-fault g c = λ s h.
    let none : c.args.self.now.root ≡ None = search rules in
    too_large c.args.self.now _ s h none

pub frame-requires-clause-stands : goal.frame-requires-clause-stands
frame-requires-clause-stands g c =
    let kept = c.args.self.now in
    let ds = meant_in c.args.delegates.now (λ v. (g.dyn-1.0.entry v).1) in
    let held = c.requires.sound in
    λ ready. (held.marks, held.tree, held_stands (plain_checked kept.program) held.delegates ds held.marks held.tree kept.owner held.stands c.requires.right)

pub frame-requires-clause-room : goal.frame-requires-clause-room
frame-requires-clause-room g c = λ ready. (c.args.self.now.frames, c.requires.frames, c.requires.sound.room)

pub frame-requires-clause-again : goal.frame-requires-clause-again
frame-requires-clause-again g c = λ on. known_root c.args.self.now.owner.settled c.args.self.now.root c.in-Some.root c.in-Some.is (c.requires.sound.known on)

pub frame-requires-clause-root : goal.frame-requires-clause-root
frame-requires-clause-root g c =
    let P : Option (Rc Widget Global) → Type 0 = λ o. IfSome o (λ r. IsTypedWidget (declarations_of (plain_checked c.args.self.now.program)) (shared r)) in
    subst P c.in-Some.is c.requires.sound.parts.root_typed

pub frame-requires-clause-size : goal.frame-requires-clause-size
frame-requires-clause-size g c =
    let P : Option (Rc Widget Global) → Type 0 = λ o. IfSome o (λ r. IsSized r.value) in
    subst P c.in-Some.is c.requires.sound.parts.root_sized

pub returns-in_err-idle-clause-fault : goal.returns-in_err-idle-clause-fault
returns-in_err-idle-clause-fault g c = λ s h.
    let kept = c.args.self.now in
    let ds = meant_in c.args.delegates.now (λ v. (g.dyn-1.0.entry v).1) in
    let scale = c.requires.sound.scale_is in
    let q = err_from_is_err_and c.from_residual.result c.from_residual.ensures.1 in
    rw (q.1, q.2) (some_map _ _ (fault_of c.in_err-idle.field-0.0)
    (λ f is. sym (built_same kept ds s c.in-Some.root h scale c.in-Some.is) ∙ is s.marks s.tree (stands_here kept ds s c.in-Some.root h scale c.in-Some.is)) c.in_err-idle.ensures.fault)

pub returns-clause-state : goal.returns-clause-state
returns-clause-state g c = λ s h.
    let kept = c.args.self.now in
    let ds = meant_in c.args.delegates.now (λ v. (g.dyn-1.0.entry v).1) in
    let scale = c.requires.sound.scale_is in
    let stands = stands_here kept ds s c.in-Some.root h scale c.in-Some.is in
    framed_stands kept ds s c.in-Some.root h scale c.in-Some.is c.frame.new.self c.forget_unless.new.text
    (last_by (λ (v : Vec ℕ Global). v.items) c.in_ok-idle.idle kept.last c.forget_unless.new.text (scale_of s.program).cell kept.owner.screen c.frame.new.self.screen s.shown
    c.forget_unless.ensures.again c.forget_unless.ensures.other h.shown (λ on. c.in_ok-idle.ensures.again on s.marks s.tree stands) h.last)
    (c.in_ok-idle.ensures.shows s.marks s.tree (stands_here kept ds s c.in-Some.root h scale c.in-Some.is))

pub returns-clause-sound : goal.returns-clause-sound
returns-clause-sound g c =
    let kept = c.args.self.now in
    let ds = meant_in c.args.delegates.now (λ v. (g.dyn-1.0.entry v).1) in
    let held = c.requires.sound in
    let laws : BuildLaws = record {
      well = c.builds_are_well_built.ensures.whole;
      differ = c.numbers_differ.ensures;
      few = c.few_numbers_are_given.ensures;
      above = c.handlers_belong_to_nodes_above.ensures;
      fit = c.owned_handlers_fit.ensures;
      offsets = c.changes_keep_numbering.ensures.offsets;
    } in
    sound_framed laws kept.owner c.frame.new.self kept.program kept.root c.in-Some.root kept.same_root kept.frames ds kept.view held c.in-Some.is c.parts.ensures.checked.typed _ refl
    (c.in_ok-idle.ensures.shows held.marks held.tree (held_stands (plain_checked kept.program) held.delegates ds held.marks held.tree kept.owner held.stands c.requires.right))
    c.in_ok-idle.ensures.ready c.frame.ensures.scale (c.in_ok-idle.ensures.room kept.frames held.room) c.in_ok-idle.ensures.settles

pub returns-clause-work : goal.returns-clause-work
returns-clause-work g c = λ frames s h versions caused.
    let kept = c.args.self.now in
    let new = c.frame.new.self in
    let ds = meant_in c.args.delegates.now (λ v. (g.dyn-1.0.entry v).1) in
    let scale = c.requires.sound.scale_is in
    let stands = stands_here kept ds s c.in-Some.root h scale c.in-Some.is in
    let laws : FrameLaws = record {
      well = c.builds_are_well_built.ensures.whole;
      differ = c.numbers_differ.ensures;
      grows = c.numbers_are_old_or_new.ensures;
      survive = c.states_survive.ensures.whole;
      vanish = c.built_trees_vanish_alone.ensures;
      one = c.one_root_is_laid_out.ensures;
      drawn = c.what_stands_is_drawn.ensures.drawn;
      keeps = c.states_keep_to_their_version.ensures.trees;
      no_lists = λ tree keeps. c.first_versions_have_no_lists.ensures.renders tree (c.first_versions_have_no_lists.ensures.trees tree keeps);
      root = c.what_stands_is_drawn.ensures.root;
    } in
    let typed = subst IsTypedChecked h.program c.parts.ensures.checked.typed in
    let works = works_here kept ds s c.in-Some.root h scale c.in-Some.is kept.owner.screen.nodes new.screen.nodes _ _ _ _ (c.in_ok-idle.ensures.steps s.marks s.tree stands) in
    let shown = framed_stands kept ds s c.in-Some.root h scale c.in-Some.is new c.forget_unless.new.text
    (last_by (λ (v : Vec ℕ Global). v.items) c.in_ok-idle.idle kept.last c.forget_unless.new.text (scale_of s.program).cell kept.owner.screen new.screen s.shown
    c.forget_unless.ensures.again c.forget_unless.ensures.other h.shown (λ on. c.in_ok-idle.ensures.again on s.marks s.tree stands) h.last)
    (c.in_ok-idle.ensures.shows s.marks s.tree stands) in
    let asked = subst (λ (view : Size). IsAskedAs view (root_tree new.screen.nodes)) h.view c.in_ok-idle.ensures.laid.asked in
    kept_on frames s new.screen.nodes _ _ _ _ (c.phased_frames_keep_to_their_work.ensures frames s kept.owner.screen.nodes new.screen.nodes _ _ _ _
    (frame_went laws kept (record kept { owner = new; same_root = true; frames = kept.frames + 1; last = c.forget_unless.new.text }) ds s h versions typed (root_here kept ds s c.in-Some.root h scale c.in-Some.is c.requires.sound.parts.root_typed) shown _ _ _ _ asked works) caused)

pub returns-in_default-clause-work_at_fault : goal.returns-in_default-clause-work_at_fault
returns-in_default-clause-work_at_fault g c = λ frames s h versions caused.
    let none : c.args.self.now.root ≡ None = search rules in
    fault_counts frames s _ c.args.self.now.owner.screen.nodes _ _ _ _ (too_large c.args.self.now _ s h none) (at_most _ _) refl

pub returns-in_err-idle-clause-work_at_fault : goal.returns-in_err-idle-clause-work_at_fault
returns-in_err-idle-clause-work_at_fault g c = λ frames s h versions caused.
    let kept = c.args.self.now in
    let ds = meant_in c.args.delegates.now (λ v. (g.dyn-1.0.entry v).1) in
    let scale = c.requires.sound.scale_is in
    let stands = stands_here kept ds s c.in-Some.root h scale c.in-Some.is in
    let laws : FrameLaws = record {
      well = c.builds_are_well_built.ensures.whole;
      differ = c.numbers_differ.ensures;
      grows = c.numbers_are_old_or_new.ensures;
      survive = c.states_survive.ensures.whole;
      vanish = c.built_trees_vanish_alone.ensures;
      one = c.one_root_is_laid_out.ensures;
      drawn = c.what_stands_is_drawn.ensures.drawn;
      keeps = c.states_keep_to_their_version.ensures.trees;
      no_lists = λ tree keeps. c.first_versions_have_no_lists.ensures.renders tree (c.first_versions_have_no_lists.ensures.trees tree keeps);
      root = c.what_stands_is_drawn.ensures.root;
    } in
    let firsts : FirstLaws = record {
      well = c.builds_are_well_built.ensures.first;
      survive = c.states_survive.ensures.first;
      survivors = c.survivors.ensures.first;
      apart = c.projection_keeps_numbers_apart.ensures;
    } in
    let typed = subst IsTypedChecked h.program c.parts.ensures.checked.typed in
    let q = err_from_is_err_and c.from_residual.result c.from_residual.ensures.1 in
    rw (q.1, q.2) (some_map _ _ (fault_of c.in_err-idle.field-0.0)
    (λ f k.
    let failed_here = sym (built_same kept ds s c.in-Some.root h scale c.in-Some.is) ∙ k.0 s.marks s.tree stands in
    let laid = fault_here kept ds s c.in-Some.root h scale c.in-Some.is kept.owner.screen.nodes _ _ (k.1 s.marks s.tree stands) in
    fault_counts frames s f c.frame.new.self.screen.nodes _ _ _ _ failed_here
    (c.frames_with_faults_keep_to_their_work.ensures frames s kept.owner.screen.nodes _ _
    (fault_went laws firsts kept ds s h typed (root_here kept ds s c.in-Some.root h scale c.in-Some.is c.requires.sound.parts.root_typed) _ _ laid) caused) k.2)
    (some_all _ _ _ (fault_of c.in_err-idle.field-0.0) c.in_err-idle.ensures.fault c.in_err-idle.ensures.laid_at_fault c.in_err-idle.ensures.unpainted))

pub returns-clause-built : goal.returns-clause-built
returns-clause-built g c = λ s h.
    let kept = c.args.self.now in
    let ds = meant_in c.args.delegates.now (λ v. (g.dyn-1.0.entry v).1) in
    let scale = c.requires.sound.scale_is in
    few_built kept ds s c.in-Some.root h scale c.in-Some.is c.frames_build_what_is_due.ensures _ _
    (c.in_ok-idle.ensures.builds s.marks s.tree (stands_here kept ds s c.in-Some.root h scale c.in-Some.is))

pub returns-in_default-clause-built_at_fault : goal.returns-in_default-clause-built_at_fault
returns-in_default-clause-built_at_fault g c = λ s h. at_most _ _

pub returns-in_err-idle-clause-built_at_fault : goal.returns-in_err-idle-clause-built_at_fault
returns-in_err-idle-clause-built_at_fault g c = λ s h.
    let kept = c.args.self.now in
    let ds = meant_in c.args.delegates.now (λ v. (g.dyn-1.0.entry v).1) in
    let scale = c.requires.sound.scale_is in
    let q = err_from_is_err_and c.from_residual.result c.from_residual.ensures.1 in
    rw (q.1, q.2) (some_map _ _ (fault_of c.in_err-idle.field-0.0)
    (λ f counts. few_built kept ds s c.in-Some.root h scale c.in-Some.is c.frames_build_what_is_due.ensures _ _ (counts s.marks s.tree (stands_here kept ds s c.in-Some.root h scale c.in-Some.is)))
    c.in_err-idle.ensures.builds_at_fault)
