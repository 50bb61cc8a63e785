use Rattle.std.proofs.Common.{◌++◌, ℕ, Vec, Global, option_map, option_copied, ap, sym, ◌∙◌}
use Rattle.render_readers.specs.Shown.{shown_laid}
use Rattle.session_form.specs.FrameText.{layers_of, frame_text}
use Rattle.session_form.specs.Program.{scale_of}
use Rattle.session_form.specs.State.{Shown}
use Rattle.session_form.proofs.TreeLemmas.{none_some}
use Rattle.frame_session.proofs.FrameLemmas.{layer_found, shown_printed}
use Rattle.frame_session.proofs.LastLemmas.{shown_there, last_here, last_back}
use Rattle.frame_session.proofs.StandsLemmas.{with_last}
use Rattle.frame_session.proofs.StepLemmas.{ok_then}
use Rattle.frame_session.proofs.held.HeldSession.picture.Goals as goal

pub returns-clause-text : goal.returns-clause-text
returns-clause-text c = λ ds s shown h is.
    let cell = (scale_of s.program).cell in
    let kept = c.args.self.now in
    let laid = ap shown_laid c.render.ensures ∙ (h.shown.laid ∙ ap (option_map (λ (x : Shown). x.laid)) is) in
    let painted = layer_found c.layer.result c.in-Some.layers (layers_of cell shown) _ c.in-Some.is c.layer.ensures (h.shown.layers ∙ ap (option_map (layers_of cell)) is) in
    ok_then c.print_frame.result (λ said. said
    ∙ ap (λ t. c.args.out.now.items ++ t) (shown_printed kept.frames cell shown (shown_laid c.render.result.now.tree) c.in-Some.layers.now laid painted ∙ ap (λ n. frame_text n cell shown) h.frames))
    (c.print_frame.ensures.text (last_here (λ (v : Vec ℕ Global). v.items) kept.last cell s.shown shown (shown_laid c.render.result.now.tree) c.in-Some.layers.now is laid painted h.last))

pub returns-clause-state : goal.returns-clause-state
returns-clause-state c = λ ds s h.
    let cell = (scale_of s.program).cell in
    let kept = c.args.self.now in
    let there = shown_there cell kept.owner.screen s.shown c.in-Some.layers.now h.shown (sym c.layer.ensures ∙ ap option_copied c.in-Some.is) in
    let laid = ap shown_laid c.render.ensures ∙ there.2 in
    let painted = there.3 in
    ok_then c.print_frame.result
    (λ last. with_last kept ds s c.print_frame.new.last h
    (last_back (λ (v : Vec ℕ Global). v.items) c.print_frame.new.last cell s.shown there.0 (shown_laid c.render.result.now.tree) c.in-Some.layers.now there.1 laid painted last))
    (c.print_frame.ensures.last (last_here (λ (v : Vec ℕ Global). v.items) kept.last cell s.shown there.0 (shown_laid c.render.result.now.tree) c.in-Some.layers.now there.1 laid painted h.last))

pub returns-clause-sound : goal.returns-clause-sound
returns-clause-sound c = λ sound. sound

pub returns-in_default-clause-text : goal.returns-in_default-clause-text
returns-in_default-clause-text c = λ ds s shown h is.
    absurd (none_some (sym (ap option_copied c.in_default.is) ∙ (c.layer.ensures ∙ (h.shown.layers ∙ ap (option_map (layers_of (scale_of s.program).cell)) is))))
