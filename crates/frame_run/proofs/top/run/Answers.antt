use Rattle.std.proofs.Common.{◌≡◌, ℕ, List, Some, Global, ap, sym, subst, ◌∙◌}
use Rattle.fx_outside.specs.Told.{HasWritten}
use Rattle.frame_run.specs.Answers.{EndsInFault}
use Rattle.frame_run.specs.Words.{given, meant, request_given}
use Rattle.frame_run.specs.declared.words.Request.TheVariants.{Input, Demo}
use Rattle.frame_run.specs.declared.status.Status.TheVariants.{BadWords}
use Rattle.frame_run.proofs.StatusLemmas.{OnEnd-both, on_end_out, on_fault}
use Rattle.frame_run.proofs.AnswersLemmas.{answers_all_accepted, answers_some_refused, answers_bad_program, answers_frame_fault, answers_too_long, bad_program_text, fault_text_last, too_long_text, done_answers}
use Rattle.frame_run.proofs.DemoRunLemmas.{demo_has_status, demo_has_text, demo_long_text, demo_cut_off, demo_answered, demo_takes_none}
use Rattle.frame_run.proofs.SeenLemmas.{mode_answered, bad_words_answered, unread_answered}
use Rattle.frame_run.proofs.WordsLemmas.{mode_has_status, mode_has_text, mode_cut_off, input_has_status, input_has_text, text_input, ended_input, bad_words_status, bad_words_text}
use Rattle.frame_run.proofs.CheckLemmas.{check_uncounted}
use Rattle.frame_run.proofs.WorkedLemmas.{mode_has_work, mode_worked, demo_has_work, demo_worked, bad_words_work, bad_words_worked, unread_worked}
use Rattle.frame_run.proofs.top.run.Goals as goal

pub returns-in-Ok-Some-Input-clause-status : goal.returns-in-Ok-Some-Input-clause-status
returns-in-Ok-Some-Input-clause-status g c b told =
    let call = given {Z = Global} 67108864 c.args.words.now (meant c.args.delegates.items (λ v. (g.dyn-1.0.entry v).1)) in
    let asked : request_given call ≡ Some (Input c.in-Ok-Some-Input.mode) = sym c.in-Ok-Some-Input.ensures.asked ∙ c.in-Ok-Some-Input.field-0-is ∙ ap Some c.in-Ok-Some-Input.field-0-0-is in
    mode_has_status call b c.in-Ok-Some-Input.mode c.run_input.result asked (c.run_input.ensures.status b told)

pub returns-in-Ok-Some-Input-clause-text : goal.returns-in-Ok-Some-Input-clause-text
returns-in-Ok-Some-Input-clause-text g c b told =
    let call = given {Z = Global} 67108864 c.args.words.now (meant c.args.delegates.items (λ v. (g.dyn-1.0.entry v).1)) in
    let asked : request_given call ≡ Some (Input c.in-Ok-Some-Input.mode) = sym c.in-Ok-Some-Input.ensures.asked ∙ c.in-Ok-Some-Input.field-0-is ∙ ap Some c.in-Ok-Some-Input.field-0-0-is in
    mode_has_text call b c.in-Ok-Some-Input.mode c.run_input.result _ _ asked (c.run_input.ensures.text b told)

pub returns-in-Ok-Some-Input-clause-all_accepted : goal.returns-in-Ok-Some-Input-clause-all_accepted
returns-in-Ok-Some-Input-clause-all_accepted g c b told =
    let call = given {Z = Global} 67108864 c.args.words.now (meant c.args.delegates.items (λ v. (g.dyn-1.0.entry v).1)) in
    let asked : request_given call ≡ Some (Input c.in-Ok-Some-Input.mode) = sym c.in-Ok-Some-Input.ensures.asked ∙ c.in-Ok-Some-Input.field-0-is ∙ ap Some c.in-Ok-Some-Input.field-0-0-is in
    answers_all_accepted call b c.run_input.result (mode_has_status call b c.in-Ok-Some-Input.mode c.run_input.result asked (c.run_input.ensures.status b told))

pub returns-in-Ok-Some-Input-clause-some_refused : goal.returns-in-Ok-Some-Input-clause-some_refused
returns-in-Ok-Some-Input-clause-some_refused g c b told =
    let call = given {Z = Global} 67108864 c.args.words.now (meant c.args.delegates.items (λ v. (g.dyn-1.0.entry v).1)) in
    let asked : request_given call ≡ Some (Input c.in-Ok-Some-Input.mode) = sym c.in-Ok-Some-Input.ensures.asked ∙ c.in-Ok-Some-Input.field-0-is ∙ ap Some c.in-Ok-Some-Input.field-0-0-is in
    answers_some_refused call b c.run_input.result (mode_has_status call b c.in-Ok-Some-Input.mode c.run_input.result asked (c.run_input.ensures.status b told))

pub returns-in-Ok-Some-Input-clause-bad_program : goal.returns-in-Ok-Some-Input-clause-bad_program
returns-in-Ok-Some-Input-clause-bad_program g c b told =
    let call = given {Z = Global} 67108864 c.args.words.now (meant c.args.delegates.items (λ v. (g.dyn-1.0.entry v).1)) in
    let asked : request_given call ≡ Some (Input c.in-Ok-Some-Input.mode) = sym c.in-Ok-Some-Input.ensures.asked ∙ c.in-Ok-Some-Input.field-0-is ∙ ap Some c.in-Ok-Some-Input.field-0-0-is in
    answers_bad_program call b c.run_input.result (mode_has_status call b c.in-Ok-Some-Input.mode c.run_input.result asked (c.run_input.ensures.status b told))

pub returns-in-Ok-Some-Input-clause-frame_fault : goal.returns-in-Ok-Some-Input-clause-frame_fault
returns-in-Ok-Some-Input-clause-frame_fault g c b told =
    let call = given {Z = Global} 67108864 c.args.words.now (meant c.args.delegates.items (λ v. (g.dyn-1.0.entry v).1)) in
    let asked : request_given call ≡ Some (Input c.in-Ok-Some-Input.mode) = sym c.in-Ok-Some-Input.ensures.asked ∙ c.in-Ok-Some-Input.field-0-is ∙ ap Some c.in-Ok-Some-Input.field-0-0-is in
    answers_frame_fault call b c.run_input.result (mode_has_status call b c.in-Ok-Some-Input.mode c.run_input.result asked (c.run_input.ensures.status b told))

pub returns-in-Ok-Some-Input-clause-too_long : goal.returns-in-Ok-Some-Input-clause-too_long
returns-in-Ok-Some-Input-clause-too_long g c b told =
    let call = given {Z = Global} 67108864 c.args.words.now (meant c.args.delegates.items (λ v. (g.dyn-1.0.entry v).1)) in
    let asked : request_given call ≡ Some (Input c.in-Ok-Some-Input.mode) = sym c.in-Ok-Some-Input.ensures.asked ∙ c.in-Ok-Some-Input.field-0-is ∙ ap Some c.in-Ok-Some-Input.field-0-0-is in
    answers_too_long call b c.run_input.result (mode_has_status call b c.in-Ok-Some-Input.mode c.run_input.result asked (c.run_input.ensures.status b told))

pub returns-in-Ok-Some-Input-clause-bad_program_text : goal.returns-in-Ok-Some-Input-clause-bad_program_text
returns-in-Ok-Some-Input-clause-bad_program_text g c b fault takes told is refused =
    let call = given {Z = Global} 67108864 c.args.words.now (meant c.args.delegates.items (λ v. (g.dyn-1.0.entry v).1)) in
    let asked : request_given call ≡ Some (Input c.in-Ok-Some-Input.mode) = sym c.in-Ok-Some-Input.ensures.asked ∙ c.in-Ok-Some-Input.field-0-is ∙ ap Some c.in-Ok-Some-Input.field-0-0-is in
    bad_program_text call b c.run_input.result _ _ fault
    (input_has_status call b c.in-Ok-Some-Input.mode c.run_input.result asked (c.run_input.ensures.status b told))
    (input_has_text call b c.in-Ok-Some-Input.mode c.run_input.result _ _ asked (c.run_input.ensures.text b told)) is refused

pub returns-in-Ok-Some-Input-clause-frame_fault_text : goal.returns-in-Ok-Some-Input-clause-frame_fault_text
returns-in-Ok-Some-Input-clause-frame_fault_text g c b takes told is =
    let call = given {Z = Global} 67108864 c.args.words.now (meant c.args.delegates.items (λ v. (g.dyn-1.0.entry v).1)) in
    let asked : request_given call ≡ Some (Input c.in-Ok-Some-Input.mode) = sym c.in-Ok-Some-Input.ensures.asked ∙ c.in-Ok-Some-Input.field-0-is ∙ ap Some c.in-Ok-Some-Input.field-0-0-is in
    let P : List ℕ → Type 0 = λ t. EndsInFault t in (
      subst P (sym (text_input call b c.in-Ok-Some-Input.mode asked)) (fault_text_last call b c.run_input.result (input_has_status call b c.in-Ok-Some-Input.mode c.run_input.result asked (c.run_input.ensures.status b told)) is),
      on_fault c.run_input.result _ is (mode_has_text call b c.in-Ok-Some-Input.mode c.run_input.result _ _ asked (c.run_input.ensures.text b told)),
    )

pub returns-in-Ok-Some-Input-clause-too_long_text : goal.returns-in-Ok-Some-Input-clause-too_long_text
returns-in-Ok-Some-Input-clause-too_long_text g c b told is =
    let call = given {Z = Global} 67108864 c.args.words.now (meant c.args.delegates.items (λ v. (g.dyn-1.0.entry v).1)) in
    let asked : request_given call ≡ Some (Input c.in-Ok-Some-Input.mode) = sym c.in-Ok-Some-Input.ensures.asked ∙ c.in-Ok-Some-Input.field-0-is ∙ ap Some c.in-Ok-Some-Input.field-0-0-is in
    let P : List ℕ → Type 0 = λ t. HasWritten (g.K.Sink.held c.args.sink.now) (g.K.Sink.held c.run_input.new.sink) t in
    subst P (sym (ended_input call b c.in-Ok-Some-Input.mode asked)) (too_long_text call b c.run_input.result _ _
    (input_has_status call b c.in-Ok-Some-Input.mode c.run_input.result asked (c.run_input.ensures.status b told))
    (input_has_text call b c.in-Ok-Some-Input.mode c.run_input.result _ _ asked (c.run_input.ensures.text b told)) is)

pub returns-in-Ok-Some-Input-clause-cut_off : goal.returns-in-Ok-Some-Input-clause-cut_off
returns-in-Ok-Some-Input-clause-cut_off g c =
    let call = given {Z = Global} 67108864 c.args.words.now (meant c.args.delegates.items (λ v. (g.dyn-1.0.entry v).1)) in
    let asked : request_given call ≡ Some (Input c.in-Ok-Some-Input.mode) = sym c.in-Ok-Some-Input.ensures.asked ∙ c.in-Ok-Some-Input.field-0-is ∙ ap Some c.in-Ok-Some-Input.field-0-0-is in
    mode_cut_off call c.in-Ok-Some-Input.mode c.run_input.result _ _ _ _ asked c.run_input.ensures.cut_off

pub returns-in-Ok-Some-Input-clause-answered : goal.returns-in-Ok-Some-Input-clause-answered
returns-in-Ok-Some-Input-clause-answered g c =
    let call = given {Z = Global} 67108864 c.args.words.now (meant c.args.delegates.items (λ v. (g.dyn-1.0.entry v).1)) in
    let asked : request_given call ≡ Some (Input c.in-Ok-Some-Input.mode) = sym c.in-Ok-Some-Input.ensures.asked ∙ c.in-Ok-Some-Input.field-0-is ∙ ap Some c.in-Ok-Some-Input.field-0-0-is in
    mode_answered call c.in-Ok-Some-Input.mode c.run_input.result _ _ _ _ asked c.run_input.ensures.answered

pub returns-in-Ok-Some-Input-clause-complete : goal.returns-in-Ok-Some-Input-clause-complete
returns-in-Ok-Some-Input-clause-complete g c b told source_fine sink_fine has_memory =
    let call = given {Z = Global} 67108864 c.args.words.now (meant c.args.delegates.items (λ v. (g.dyn-1.0.entry v).1)) in
    let asked : request_given call ≡ Some (Input c.in-Ok-Some-Input.mode) = sym c.in-Ok-Some-Input.ensures.asked ∙ c.in-Ok-Some-Input.field-0-is ∙ ap Some c.in-Ok-Some-Input.field-0-0-is in
    on_end_out c.run_input.result _
    (λ e. source_fine (c.run_input.ensures.read_cause e)) (λ e. sink_fine (c.run_input.ensures.write_cause e)) has_memory
    (OnEnd-both c.run_input.result _ _
    (mode_has_status call b c.in-Ok-Some-Input.mode c.run_input.result asked (c.run_input.ensures.status b told))
    (mode_has_text call b c.in-Ok-Some-Input.mode c.run_input.result _ _ asked (c.run_input.ensures.text b told)))

pub returns-in-Ok-Some-Input-clause-done : goal.returns-in-Ok-Some-Input-clause-done
returns-in-Ok-Some-Input-clause-done g c b told done source_fine sink_fine has_memory =
    let call = given {Z = Global} 67108864 c.args.words.now (meant c.args.delegates.items (λ v. (g.dyn-1.0.entry v).1)) in
    let asked : request_given call ≡ Some (Input c.in-Ok-Some-Input.mode) = sym c.in-Ok-Some-Input.ensures.asked ∙ c.in-Ok-Some-Input.field-0-is ∙ ap Some c.in-Ok-Some-Input.field-0-0-is in
    let answer = on_end_out c.run_input.result _
    (λ e. source_fine (c.run_input.ensures.read_cause e)) (λ e. sink_fine (c.run_input.ensures.write_cause e)) has_memory
    (OnEnd-both c.run_input.result _ _
    (mode_has_status call b c.in-Ok-Some-Input.mode c.run_input.result asked (c.run_input.ensures.status b told))
    (mode_has_text call b c.in-Ok-Some-Input.mode c.run_input.result _ _ asked (c.run_input.ensures.text b told))) in
    (done_answers call b c.run_input.result done answer.0, answer.1)

pub returns-in-Ok-Some-Demo-clause-status : goal.returns-in-Ok-Some-Demo-clause-status
returns-in-Ok-Some-Demo-clause-status g c b told =
    let call = given {Z = Global} 67108864 c.args.words.now (meant c.args.delegates.items (λ v. (g.dyn-1.0.entry v).1)) in
    let asked : request_given call ≡ Some (Demo c.in-Ok-Some-Demo.seed c.in-Ok-Some-Demo.size) = sym c.in-Ok-Some-Demo.ensures.asked ∙ c.in-Ok-Some-Demo.field-0-is ∙ ap Some c.in-Ok-Some-Demo.field-0-0-is in
    demo_has_status call b c.in-Ok-Some-Demo.seed c.in-Ok-Some-Demo.size c.run_demo.result asked c.run_demo.ensures.status

pub returns-in-Ok-Some-Demo-clause-text : goal.returns-in-Ok-Some-Demo-clause-text
returns-in-Ok-Some-Demo-clause-text g c b told =
    let call = given {Z = Global} 67108864 c.args.words.now (meant c.args.delegates.items (λ v. (g.dyn-1.0.entry v).1)) in
    let asked : request_given call ≡ Some (Demo c.in-Ok-Some-Demo.seed c.in-Ok-Some-Demo.size) = sym c.in-Ok-Some-Demo.ensures.asked ∙ c.in-Ok-Some-Demo.field-0-is ∙ ap Some c.in-Ok-Some-Demo.field-0-0-is in
    demo_has_text call b c.in-Ok-Some-Demo.seed c.in-Ok-Some-Demo.size c.run_demo.result _ _ asked c.run_demo.ensures.text

pub returns-in-Ok-Some-Demo-clause-all_accepted : goal.returns-in-Ok-Some-Demo-clause-all_accepted
returns-in-Ok-Some-Demo-clause-all_accepted g c b told =
    let call = given {Z = Global} 67108864 c.args.words.now (meant c.args.delegates.items (λ v. (g.dyn-1.0.entry v).1)) in
    let asked : request_given call ≡ Some (Demo c.in-Ok-Some-Demo.seed c.in-Ok-Some-Demo.size) = sym c.in-Ok-Some-Demo.ensures.asked ∙ c.in-Ok-Some-Demo.field-0-is ∙ ap Some c.in-Ok-Some-Demo.field-0-0-is in
    answers_all_accepted call b c.run_demo.result (demo_has_status call b c.in-Ok-Some-Demo.seed c.in-Ok-Some-Demo.size c.run_demo.result asked c.run_demo.ensures.status)

pub returns-in-Ok-Some-Demo-clause-some_refused : goal.returns-in-Ok-Some-Demo-clause-some_refused
returns-in-Ok-Some-Demo-clause-some_refused g c b told =
    let call = given {Z = Global} 67108864 c.args.words.now (meant c.args.delegates.items (λ v. (g.dyn-1.0.entry v).1)) in
    let asked : request_given call ≡ Some (Demo c.in-Ok-Some-Demo.seed c.in-Ok-Some-Demo.size) = sym c.in-Ok-Some-Demo.ensures.asked ∙ c.in-Ok-Some-Demo.field-0-is ∙ ap Some c.in-Ok-Some-Demo.field-0-0-is in
    answers_some_refused call b c.run_demo.result (demo_has_status call b c.in-Ok-Some-Demo.seed c.in-Ok-Some-Demo.size c.run_demo.result asked c.run_demo.ensures.status)

pub returns-in-Ok-Some-Demo-clause-bad_program : goal.returns-in-Ok-Some-Demo-clause-bad_program
returns-in-Ok-Some-Demo-clause-bad_program g c b told =
    let call = given {Z = Global} 67108864 c.args.words.now (meant c.args.delegates.items (λ v. (g.dyn-1.0.entry v).1)) in
    let asked : request_given call ≡ Some (Demo c.in-Ok-Some-Demo.seed c.in-Ok-Some-Demo.size) = sym c.in-Ok-Some-Demo.ensures.asked ∙ c.in-Ok-Some-Demo.field-0-is ∙ ap Some c.in-Ok-Some-Demo.field-0-0-is in
    answers_bad_program call b c.run_demo.result (demo_has_status call b c.in-Ok-Some-Demo.seed c.in-Ok-Some-Demo.size c.run_demo.result asked c.run_demo.ensures.status)

pub returns-in-Ok-Some-Demo-clause-frame_fault : goal.returns-in-Ok-Some-Demo-clause-frame_fault
returns-in-Ok-Some-Demo-clause-frame_fault g c b told =
    let call = given {Z = Global} 67108864 c.args.words.now (meant c.args.delegates.items (λ v. (g.dyn-1.0.entry v).1)) in
    let asked : request_given call ≡ Some (Demo c.in-Ok-Some-Demo.seed c.in-Ok-Some-Demo.size) = sym c.in-Ok-Some-Demo.ensures.asked ∙ c.in-Ok-Some-Demo.field-0-is ∙ ap Some c.in-Ok-Some-Demo.field-0-0-is in
    answers_frame_fault call b c.run_demo.result (demo_has_status call b c.in-Ok-Some-Demo.seed c.in-Ok-Some-Demo.size c.run_demo.result asked c.run_demo.ensures.status)

pub returns-in-Ok-Some-Demo-clause-too_long : goal.returns-in-Ok-Some-Demo-clause-too_long
returns-in-Ok-Some-Demo-clause-too_long g c b told =
    let call = given {Z = Global} 67108864 c.args.words.now (meant c.args.delegates.items (λ v. (g.dyn-1.0.entry v).1)) in
    let asked : request_given call ≡ Some (Demo c.in-Ok-Some-Demo.seed c.in-Ok-Some-Demo.size) = sym c.in-Ok-Some-Demo.ensures.asked ∙ c.in-Ok-Some-Demo.field-0-is ∙ ap Some c.in-Ok-Some-Demo.field-0-0-is in
    answers_too_long call b c.run_demo.result (demo_has_status call b c.in-Ok-Some-Demo.seed c.in-Ok-Some-Demo.size c.run_demo.result asked c.run_demo.ensures.status)

pub returns-in-Ok-Some-Demo-clause-at_end : goal.returns-in-Ok-Some-Demo-clause-at_end
returns-in-Ok-Some-Demo-clause-at_end g c takes done =
    let call = given {Z = Global} 67108864 c.args.words.now (meant c.args.delegates.items (λ v. (g.dyn-1.0.entry v).1)) in
    let asked : request_given call ≡ Some (Demo c.in-Ok-Some-Demo.seed c.in-Ok-Some-Demo.size) = sym c.in-Ok-Some-Demo.ensures.asked ∙ c.in-Ok-Some-Demo.field-0-is ∙ ap Some c.in-Ok-Some-Demo.field-0-0-is in
    absurd (demo_takes_none call c.in-Ok-Some-Demo.seed c.in-Ok-Some-Demo.size asked takes)

pub returns-in-Ok-Some-Demo-clause-bad_program_text : goal.returns-in-Ok-Some-Demo-clause-bad_program_text
returns-in-Ok-Some-Demo-clause-bad_program_text g c b fault takes told is refused =
    let call = given {Z = Global} 67108864 c.args.words.now (meant c.args.delegates.items (λ v. (g.dyn-1.0.entry v).1)) in
    let asked : request_given call ≡ Some (Demo c.in-Ok-Some-Demo.seed c.in-Ok-Some-Demo.size) = sym c.in-Ok-Some-Demo.ensures.asked ∙ c.in-Ok-Some-Demo.field-0-is ∙ ap Some c.in-Ok-Some-Demo.field-0-0-is in
    absurd (demo_takes_none call c.in-Ok-Some-Demo.seed c.in-Ok-Some-Demo.size asked takes)

pub returns-in-Ok-Some-Demo-clause-frame_fault_text : goal.returns-in-Ok-Some-Demo-clause-frame_fault_text
returns-in-Ok-Some-Demo-clause-frame_fault_text g c b takes told is =
    let call = given {Z = Global} 67108864 c.args.words.now (meant c.args.delegates.items (λ v. (g.dyn-1.0.entry v).1)) in
    let asked : request_given call ≡ Some (Demo c.in-Ok-Some-Demo.seed c.in-Ok-Some-Demo.size) = sym c.in-Ok-Some-Demo.ensures.asked ∙ c.in-Ok-Some-Demo.field-0-is ∙ ap Some c.in-Ok-Some-Demo.field-0-0-is in
    absurd (demo_takes_none call c.in-Ok-Some-Demo.seed c.in-Ok-Some-Demo.size asked takes)

pub returns-in-Ok-Some-Demo-clause-too_long_text : goal.returns-in-Ok-Some-Demo-clause-too_long_text
returns-in-Ok-Some-Demo-clause-too_long_text g c b told is =
    let call = given {Z = Global} 67108864 c.args.words.now (meant c.args.delegates.items (λ v. (g.dyn-1.0.entry v).1)) in
    let asked : request_given call ≡ Some (Demo c.in-Ok-Some-Demo.seed c.in-Ok-Some-Demo.size) = sym c.in-Ok-Some-Demo.ensures.asked ∙ c.in-Ok-Some-Demo.field-0-is ∙ ap Some c.in-Ok-Some-Demo.field-0-0-is in
    demo_long_text call b c.in-Ok-Some-Demo.seed c.in-Ok-Some-Demo.size c.run_demo.result _ _ asked c.run_demo.ensures.text is

pub returns-in-Ok-Some-Demo-clause-cut_off : goal.returns-in-Ok-Some-Demo-clause-cut_off
returns-in-Ok-Some-Demo-clause-cut_off g c =
    let call = given {Z = Global} 67108864 c.args.words.now (meant c.args.delegates.items (λ v. (g.dyn-1.0.entry v).1)) in
    let asked : request_given call ≡ Some (Demo c.in-Ok-Some-Demo.seed c.in-Ok-Some-Demo.size) = sym c.in-Ok-Some-Demo.ensures.asked ∙ c.in-Ok-Some-Demo.field-0-is ∙ ap Some c.in-Ok-Some-Demo.field-0-0-is in
    demo_cut_off call c.in-Ok-Some-Demo.seed c.in-Ok-Some-Demo.size c.run_demo.result _ _ _ asked c.run_demo.ensures.no_read c.run_demo.ensures.part

pub returns-in-Ok-Some-Demo-clause-answered : goal.returns-in-Ok-Some-Demo-clause-answered
returns-in-Ok-Some-Demo-clause-answered g c =
    let call = given {Z = Global} 67108864 c.args.words.now (meant c.args.delegates.items (λ v. (g.dyn-1.0.entry v).1)) in
    let asked : request_given call ≡ Some (Demo c.in-Ok-Some-Demo.seed c.in-Ok-Some-Demo.size) = sym c.in-Ok-Some-Demo.ensures.asked ∙ c.in-Ok-Some-Demo.field-0-is ∙ ap Some c.in-Ok-Some-Demo.field-0-0-is in
    demo_answered call c.in-Ok-Some-Demo.seed c.in-Ok-Some-Demo.size c.run_demo.result _ _ _ asked c.run_demo.ensures.status c.run_demo.ensures.text

pub returns-in-Ok-Some-Demo-clause-complete : goal.returns-in-Ok-Some-Demo-clause-complete
returns-in-Ok-Some-Demo-clause-complete g c b told source_fine sink_fine has_memory =
    let call = given {Z = Global} 67108864 c.args.words.now (meant c.args.delegates.items (λ v. (g.dyn-1.0.entry v).1)) in
    let asked : request_given call ≡ Some (Demo c.in-Ok-Some-Demo.seed c.in-Ok-Some-Demo.size) = sym c.in-Ok-Some-Demo.ensures.asked ∙ c.in-Ok-Some-Demo.field-0-is ∙ ap Some c.in-Ok-Some-Demo.field-0-0-is in
    on_end_out c.run_demo.result _
    c.run_demo.ensures.no_read (λ e. sink_fine (c.run_demo.ensures.cause e)) has_memory
    (OnEnd-both c.run_demo.result _ _
    (demo_has_status call b c.in-Ok-Some-Demo.seed c.in-Ok-Some-Demo.size c.run_demo.result asked c.run_demo.ensures.status)
    (demo_has_text call b c.in-Ok-Some-Demo.seed c.in-Ok-Some-Demo.size c.run_demo.result _ _ asked c.run_demo.ensures.text))

pub returns-in-Ok-Some-Demo-clause-done : goal.returns-in-Ok-Some-Demo-clause-done
returns-in-Ok-Some-Demo-clause-done g c b told done source_fine sink_fine has_memory =
    let call = given {Z = Global} 67108864 c.args.words.now (meant c.args.delegates.items (λ v. (g.dyn-1.0.entry v).1)) in
    let asked : request_given call ≡ Some (Demo c.in-Ok-Some-Demo.seed c.in-Ok-Some-Demo.size) = sym c.in-Ok-Some-Demo.ensures.asked ∙ c.in-Ok-Some-Demo.field-0-is ∙ ap Some c.in-Ok-Some-Demo.field-0-0-is in
    let answer = on_end_out c.run_demo.result _
    c.run_demo.ensures.no_read (λ e. sink_fine (c.run_demo.ensures.cause e)) has_memory
    (OnEnd-both c.run_demo.result _ _
    (demo_has_status call b c.in-Ok-Some-Demo.seed c.in-Ok-Some-Demo.size c.run_demo.result asked c.run_demo.ensures.status)
    (demo_has_text call b c.in-Ok-Some-Demo.seed c.in-Ok-Some-Demo.size c.run_demo.result _ _ asked c.run_demo.ensures.text)) in
    (done_answers call b c.run_demo.result done answer.0, answer.1)

pub returns-in-Ok-None-clause-status : goal.returns-in-Ok-None-clause-status
returns-in-Ok-None-clause-status g c b told =
    let call = given {Z = Global} 67108864 c.args.words.now (meant c.args.delegates.items (λ v. (g.dyn-1.0.entry v).1)) in
    let refused = sym c.in-Ok-None.ensures.asked ∙ c.in-Ok-None.field-0-is in
    bad_words_status call b refused

pub returns-in-Ok-None-clause-text : goal.returns-in-Ok-None-clause-text
returns-in-Ok-None-clause-text g c b told =
    let call = given {Z = Global} 67108864 c.args.words.now (meant c.args.delegates.items (λ v. (g.dyn-1.0.entry v).1)) in
    let refused = sym c.in-Ok-None.ensures.asked ∙ c.in-Ok-None.field-0-is in
    bad_words_text call b _ refused

pub returns-in-Ok-None-clause-frame_fault : goal.returns-in-Ok-None-clause-frame_fault
returns-in-Ok-None-clause-frame_fault g c b told =
    let call = given {Z = Global} 67108864 c.args.words.now (meant c.args.delegates.items (λ v. (g.dyn-1.0.entry v).1)) in
    let refused = sym c.in-Ok-None.ensures.asked ∙ c.in-Ok-None.field-0-is in
    answers_frame_fault call b BadWords (bad_words_status call b refused)

pub returns-in-Ok-None-clause-too_long : goal.returns-in-Ok-None-clause-too_long
returns-in-Ok-None-clause-too_long g c b told =
    let call = given {Z = Global} 67108864 c.args.words.now (meant c.args.delegates.items (λ v. (g.dyn-1.0.entry v).1)) in
    let refused = sym c.in-Ok-None.ensures.asked ∙ c.in-Ok-None.field-0-is in
    answers_too_long call b BadWords (bad_words_status call b refused)

pub returns-in-Ok-None-clause-complete : goal.returns-in-Ok-None-clause-complete
returns-in-Ok-None-clause-complete g c b told source_fine sink_fine has_memory =
    let call = given {Z = Global} 67108864 c.args.words.now (meant c.args.delegates.items (λ v. (g.dyn-1.0.entry v).1)) in
    let refused = sym c.in-Ok-None.ensures.asked ∙ c.in-Ok-None.field-0-is in
    (bad_words_status call b refused, bad_words_text call b _ refused)

pub returns-in-Ok-None-clause-answered : goal.returns-in-Ok-None-clause-answered
returns-in-Ok-None-clause-answered g c =
    let call = given {Z = Global} 67108864 c.args.words.now (meant c.args.delegates.items (λ v. (g.dyn-1.0.entry v).1)) in
    let refused = sym c.in-Ok-None.ensures.asked ∙ c.in-Ok-None.field-0-is in
    bad_words_answered call _ _ refused

pub returns-in-Err-clause-answered : goal.returns-in-Err-clause-answered
returns-in-Err-clause-answered g c =
    let call = given {Z = Global} 67108864 c.args.words.now (meant c.args.delegates.items (λ v. (g.dyn-1.0.entry v).1)) in
    unread_answered call _ _

pub returns-in-Ok-Some-Input-clause-work : goal.returns-in-Ok-Some-Input-clause-work
returns-in-Ok-Some-Input-clause-work g c b told =
    let call = given {Z = Global} 67108864 c.args.words.now (meant c.args.delegates.items (λ v. (g.dyn-1.0.entry v).1)) in
    let asked : request_given call ≡ Some (Input c.in-Ok-Some-Input.mode) = sym c.in-Ok-Some-Input.ensures.asked ∙ c.in-Ok-Some-Input.field-0-is ∙ ap Some c.in-Ok-Some-Input.field-0-0-is in
    mode_has_work call b c.in-Ok-Some-Input.mode c.run_input.result _ _ _ _ _ _ asked (c.run_input.ensures.work b told)

pub returns-in-Ok-Some-Input-clause-answered_within : goal.returns-in-Ok-Some-Input-clause-answered_within
returns-in-Ok-Some-Input-clause-answered_within g c =
    let call = given {Z = Global} 67108864 c.args.words.now (meant c.args.delegates.items (λ v. (g.dyn-1.0.entry v).1)) in
    let asked : request_given call ≡ Some (Input c.in-Ok-Some-Input.mode) = sym c.in-Ok-Some-Input.ensures.asked ∙ c.in-Ok-Some-Input.field-0-is ∙ ap Some c.in-Ok-Some-Input.field-0-0-is in
    mode_worked call c.in-Ok-Some-Input.mode c.run_input.result _ _ _ _ _ _ _ _ _ _ asked c.run_input.ensures.answered_within

pub returns-in-Ok-Some-Input-clause-checked_uncounted : goal.returns-in-Ok-Some-Input-clause-checked_uncounted
returns-in-Ok-Some-Input-clause-checked_uncounted g c checks =
    let call = given {Z = Global} 67108864 c.args.words.now (meant c.args.delegates.items (λ v. (g.dyn-1.0.entry v).1)) in
    let asked : request_given call ≡ Some (Input c.in-Ok-Some-Input.mode) = sym c.in-Ok-Some-Input.ensures.asked ∙ c.in-Ok-Some-Input.field-0-is ∙ ap Some c.in-Ok-Some-Input.field-0-0-is in
    check_uncounted call c.run_input.result _ _ _ _ _ _ _ _ _ _ checks
    (mode_worked call c.in-Ok-Some-Input.mode c.run_input.result _ _ _ _ _ _ _ _ _ _ asked c.run_input.ensures.answered_within)

pub returns-in-Ok-Some-Demo-clause-work : goal.returns-in-Ok-Some-Demo-clause-work
returns-in-Ok-Some-Demo-clause-work g c b told =
    let call = given {Z = Global} 67108864 c.args.words.now (meant c.args.delegates.items (λ v. (g.dyn-1.0.entry v).1)) in
    let asked : request_given call ≡ Some (Demo c.in-Ok-Some-Demo.seed c.in-Ok-Some-Demo.size) = sym c.in-Ok-Some-Demo.ensures.asked ∙ c.in-Ok-Some-Demo.field-0-is ∙ ap Some c.in-Ok-Some-Demo.field-0-0-is in
    demo_has_work call b c.in-Ok-Some-Demo.seed c.in-Ok-Some-Demo.size c.run_demo.result _ _ _ _ _ _ asked c.run_demo.ensures.work

pub returns-in-Ok-Some-Demo-clause-answered_within : goal.returns-in-Ok-Some-Demo-clause-answered_within
returns-in-Ok-Some-Demo-clause-answered_within g c =
    let call = given {Z = Global} 67108864 c.args.words.now (meant c.args.delegates.items (λ v. (g.dyn-1.0.entry v).1)) in
    let asked : request_given call ≡ Some (Demo c.in-Ok-Some-Demo.seed c.in-Ok-Some-Demo.size) = sym c.in-Ok-Some-Demo.ensures.asked ∙ c.in-Ok-Some-Demo.field-0-is ∙ ap Some c.in-Ok-Some-Demo.field-0-0-is in
    demo_worked call c.in-Ok-Some-Demo.seed c.in-Ok-Some-Demo.size c.run_demo.result _ _ _ _ _ _ _ _ _ _ asked
    (demo_answered call c.in-Ok-Some-Demo.seed c.in-Ok-Some-Demo.size c.run_demo.result _ _ _ asked c.run_demo.ensures.status c.run_demo.ensures.text) c.run_demo.ensures.work

pub returns-in-Ok-None-clause-work : goal.returns-in-Ok-None-clause-work
returns-in-Ok-None-clause-work g c b told =
    let call = given {Z = Global} 67108864 c.args.words.now (meant c.args.delegates.items (λ v. (g.dyn-1.0.entry v).1)) in
    bad_words_work call b _ _ _

pub returns-in-Ok-None-clause-answered_within : goal.returns-in-Ok-None-clause-answered_within
returns-in-Ok-None-clause-answered_within g c =
    let call = given {Z = Global} 67108864 c.args.words.now (meant c.args.delegates.items (λ v. (g.dyn-1.0.entry v).1)) in
    let refused = sym c.in-Ok-None.ensures.asked ∙ c.in-Ok-None.field-0-is in
    bad_words_worked call _ _ _ _ _ refused

pub returns-in-Err-clause-answered_within : goal.returns-in-Err-clause-answered_within
returns-in-Err-clause-answered_within g c =
    let call = given {Z = Global} 67108864 c.args.words.now (meant c.args.delegates.items (λ v. (g.dyn-1.0.entry v).1)) in
    unread_worked call _ _ _ _ _
