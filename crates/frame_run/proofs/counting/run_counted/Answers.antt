use denote.Param.Object.{read_made}
use denote.Param.Table.{Table}
use mir.Syntax.{Dict}
use Rattle.std.proofs.Common.{◌≡◌, ◌≢◌, ℕ, ◌≤◌, ◌↔◌, ◌⊎◌, true, false, List, Some, None, Global, refl, inl, inr, rules}
use Rattle.delegates.specs.Meaning.{Meaning, bars, grid, corner}
use Rattle.delegates.specs.Table.{Plug}
use Rattle.fx_outside.specs.Faults.{Rose}
use Rattle.fx_outside.specs.Told.{HasWritten}
use Rattle.frame_run.specs.Answers.{IsDone, IsFaulted, IsTooLong, has_refused}
use Rattle.frame_run.specs.HandedIn.{handed_in}
use Rattle.frame_run.specs.Status.{OnEnd, OnMemory}
use Rattle.frame_run.specs.Text.{status_of, text_of}
use Rattle.frame_run.specs.Words.{given, meant, input_given, request_given}
use Rattle.frame_run.specs.declared.words.Mode.TheVariants.{Check}
use Rattle.frame_run.specs.declared.words.Request.TheVariants.{Input}
use Rattle.frame_run.specs.declared.status.Status.TheVariants.{AllAccepted, SomeRefused, FrameFault, NoMemory, TooLong}
use Rattle.frame_run.specs.contracts.handing.listed.{dyn-1-ghosts}
use Rattle.frame_run.specs.Work.{work_of, RoseWithin}
use Rattle.frame_run.specs.Run.{AnsweredWithin}
use Rattle.frame_run.proofs.HandedLemmas.{by_way, for_handed}
use Rattle.frame_run.proofs.ToldLemmas.{told_on_memory, told_answered, told_none, told_uncounted}
use Rattle.frame_run.proofs.counting.run_counted.Object-1.{Members}
use Rattle.frame_run.proofs.counting.run_counted.OwnLists.{own-1, lawful-own-1}
use Rattle.frame_run.proofs.counting.run_counted.Given.{Over}
use Rattle.frame_run.proofs.counting.run_counted.Goals as goal

-- what the delegates mean, by their types
abbrev entries : Table Members Dict
entries = (dyn-1-ghosts (own-1, lawful-own-1)).0

-- what holds of the delegates that `run` is handed holds of those that are handed in
handed : (g : Over) (c : goal.After-drop-builds-inside-3 g) (P : List Plug → Type 0)
    → P (meant c.in-Ok-listed.delegates.items (λ v. (entries.entry v).1)) → P handed_in
handed g c P h =
    let b = c.in-Ok.bars.value in
    let l = c.in-Ok-new.grid.value in
    let r = c.in-Ok-new-2.corner.value in
    let first = c.into_dyn_box.result in
    let second = c.into_dyn_box-2.result in
    let third = c.into_dyn_box-3.result in
    for_handed P _ _ _ _ c.in-Ok-listed.ensures
    (by_way _ (bars b.count b.color) _ (read_made entries (entries.entry (inl tt)) (inl tt) refl Meaning (λ j y. j.1.meaning y) first.vtable first.value b c.into_dyn_box.ensures.1) (search rules))
    (by_way _ (grid l.step l.color) _ (read_made entries (entries.entry (inr (inl tt))) (inr (inl tt)) refl Meaning (λ j y. j.1.meaning y) second.vtable second.value l c.into_dyn_box-2.ensures.1) (search rules))
    (by_way _ (corner r.dx r.dy) _ (read_made entries (entries.entry (inr (inr (inl tt)))) (inr (inr (inl tt))) refl Meaning (λ j y. j.1.meaning y) third.vtable third.value r c.into_dyn_box-3.ensures.1) (search rules))
    h

pub returns-clause-all_accepted : goal.returns-clause-all_accepted
returns-clause-all_accepted g c =
    let status = c.run-status.result in
    let P : List Plug → Type 0 = λ ds. let s = given {Z = Global} 67108864 c.args.words.now ds in (b : List ℕ) → g.S.Source.left c.args.source.now ≡ Some b
    → OnEnd status ((status ≡ AllAccepted) ↔ (IsDone s (input_given s b) × (has_refused s (input_given s b) ≡ false))) in
    handed g c P c.run-status.ensures.all_accepted

pub returns-clause-some_refused : goal.returns-clause-some_refused
returns-clause-some_refused g c =
    let status = c.run-status.result in
    let P : List Plug → Type 0 = λ ds. let s = given {Z = Global} 67108864 c.args.words.now ds in (b : List ℕ) → g.S.Source.left c.args.source.now ≡ Some b
    → OnEnd status ((status ≡ SomeRefused) ↔ (IsDone s (input_given s b) × (has_refused s (input_given s b) ≡ true))) in
    handed g c P c.run-status.ensures.some_refused

pub returns-clause-frame_fault : goal.returns-clause-frame_fault
returns-clause-frame_fault g c =
    let status = c.run-status.result in
    let P : List Plug → Type 0 = λ ds. let s = given {Z = Global} 67108864 c.args.words.now ds in (b : List ℕ) → g.S.Source.left c.args.source.now ≡ Some b
    → OnEnd status ((status ≡ FrameFault) ↔ IsFaulted s (input_given s b)) in
    handed g c P c.run-status.ensures.frame_fault

pub returns-clause-too_long : goal.returns-clause-too_long
returns-clause-too_long g c =
    let status = c.run-status.result in
    let P : List Plug → Type 0 = λ ds. let s = given {Z = Global} 67108864 c.args.words.now ds in (b : List ℕ) → g.S.Source.left c.args.source.now ≡ Some b
    → OnEnd status ((status ≡ TooLong) ↔ IsTooLong s (input_given s b)) in
    handed g c P c.run-status.ensures.too_long

pub returns-clause-done : goal.returns-clause-done
returns-clause-done g c =
    let status = c.run-status.result in
    let P : List Plug → Type 0 = λ ds. let s = given {Z = Global} 67108864 c.args.words.now ds in (b : List ℕ) → g.S.Source.left c.args.source.now ≡ Some b → IsDone s (input_given s b)
    → ¬ (Rose (g.S.Source.faults c.args.source.now) (g.S.Source.faults c.run-status.new.source)) → ¬ (Rose (g.K.Sink.faults c.args.sink.now) (g.K.Sink.faults c.run-status.new.sink)) → status ≢ NoMemory
    → ((status ≡ AllAccepted) ⊎ (status ≡ SomeRefused)) × HasWritten (g.K.Sink.held c.args.sink.now) (g.K.Sink.held c.run-status.new.sink) (text_of s b) in
    handed g c P c.run-status.ensures.done

pub returns-clause-work : goal.returns-clause-work
returns-clause-work g c =
    let status = c.run-status.result in
    let P : List Plug → Type 0 = λ ds. let s = given {Z = Global} 67108864 c.args.words.now ds in (b : List ℕ) → g.S.Source.left c.args.source.now ≡ Some b
    → OnMemory status (RoseWithin (work_of s b) c.at_zero-builds.result c.run-status.new.builds c.at_zero-layouts.result c.run-status.new.layouts c.at_zero-paints.result c.run-status.new.paints) in
    λ b told. told_on_memory status _ _ _ _ _ _ _ _ _ _
    (record { begins = c.at_zero-builds.ensures; tells = c.told.ensures })
    (record { begins = c.at_zero-layouts.ensures; tells = c.told-2.ensures })
    (record { begins = c.at_zero-paints.ensures; tells = c.told-3.ensures })
    (handed g c P c.run-status.ensures.work b told)

pub returns-clause-answered_within : goal.returns-clause-answered_within
returns-clause-answered_within g c =
    let status = c.run-status.result in
    let P : List Plug → Type 0 = λ ds. let s = given {Z = Global} 67108864 c.args.words.now ds in
    AnsweredWithin (status_of s) (text_of s) (work_of s) status (g.S.Source.left c.args.source.now) (g.S.Source.left c.run-status.new.source) (g.K.Sink.held c.args.sink.now) (g.K.Sink.held c.run-status.new.sink)
    c.at_zero-builds.result c.run-status.new.builds c.at_zero-layouts.result c.run-status.new.layouts c.at_zero-paints.result c.run-status.new.paints in
    told_answered _ _ _ status _ _ _ _ _ _ _ _ _ _ _ _ _
    (record { begins = c.at_zero-builds.ensures; tells = c.told.ensures })
    (record { begins = c.at_zero-layouts.ensures; tells = c.told-2.ensures })
    (record { begins = c.at_zero-paints.ensures; tells = c.told-3.ensures })
    (handed g c P c.run-status.ensures.answered_within)

pub returns-clause-uncounted : goal.returns-clause-uncounted
returns-clause-uncounted g c =
    let P : List Plug → Type 0 = λ ds. request_given (given {Z = Global} 67108864 c.args.words.now ds) ≡ None
    → (c.run-status.new.builds ≡ c.at_zero-builds.result) × (c.run-status.new.layouts ≡ c.at_zero-layouts.result) × (c.run-status.new.paints ≡ c.at_zero-paints.result) in
    λ refused.
    let same = handed g c P c.run-status.ensures.uncounted refused in (
      told_none _ _ _ (record { begins = c.at_zero-builds.ensures; tells = c.told.ensures }) same.0,
      told_none _ _ _ (record { begins = c.at_zero-layouts.ensures; tells = c.told-2.ensures }) same.1,
      told_none _ _ _ (record { begins = c.at_zero-paints.ensures; tells = c.told-3.ensures }) same.2,
    )

pub returns-clause-checked_uncounted : goal.returns-clause-checked_uncounted
returns-clause-checked_uncounted g c =
    let status = c.run-status.result in
    let P : List Plug → Type 0 = λ ds. request_given (given {Z = Global} 67108864 c.args.words.now ds) ≡ Some (Input Check)
    → OnMemory status ((c.run-status.new.builds ≤ c.at_zero-builds.result) × (c.run-status.new.layouts ≤ c.at_zero-layouts.result) × (c.run-status.new.paints ≤ c.at_zero-paints.result)) in
    λ checks. told_uncounted status _ _ _ _ _ _ _ _ _
    (record { begins = c.at_zero-builds.ensures; tells = c.told.ensures })
    (record { begins = c.at_zero-layouts.ensures; tells = c.told-2.ensures })
    (record { begins = c.at_zero-paints.ensures; tells = c.told-3.ensures })
    (handed g c P c.run-status.ensures.checked_uncounted checks)
