use Rattle.std.proofs.Common.{◌≡◌, ℕ, ◌-◌, List, [], length, take, Option, Some, refl, ap, sym, subst, arith}
use Rattle.std.proofs.lemmas.List.{length-take}
use Rattle.fx_outside.specs.Told.{IsAtEnd}
use Rattle.frame_run.specs.Lines.{last_line}
use Rattle.frame_run.proofs.RunLemmas.{place_of, run_none, run_more, end_status_told, end_text_told, end_cut, failed_cut, read_status_told, read_text_told, read_cut}
use Rattle.frame_run.proofs.SeenLemmas.{end_answered, read_answered, failed_answered}
use Rattle.frame_run.proofs.StatusLemmas.{never_done}
use Rattle.frame_run.proofs.WorkedLemmas.{run_works_none, run_works_more, end_work_told, read_work_told, failed_work_told, end_worked, read_worked, failed_worked, frames_of}
use Rattle.frame_run.proofs.WentLemmas.{begins}
use Rattle.frame_run.proofs.input.take_input.Goals as goal

pub returns-in-Failed-clause-cut_off : goal.returns-in-Failed-clause-cut_off
returns-in-Failed-clause-cut_off g c task stands =
    failed_cut task 67108864 _ _ _ _ _ _ c.loop-turn.count (c.loop-turn.invariant.run task stands) c.loop-turn.invariant.within c.in-Failed.ensures.bytes

pub returns-in-End-clause-status : goal.returns-in-End-clause-status
returns-in-End-clause-status g c task b stands told =
    let run = c.loop-turn.invariant.run task stands in
    end_status_told task 67108864 _ _ _ _ _ c.loop-turn.count b c.finish.result run c.loop-turn.invariant.within c.in-End.ensures.bytes.1 told
    (c.finish.ensures.status (place_of task run.bytes) (last_line [] run.bytes) run.stands)

pub returns-in-End-clause-text : goal.returns-in-End-clause-text
returns-in-End-clause-text g c task b stands told =
    let run = c.loop-turn.invariant.run task stands in
    end_text_told task 67108864 _ _ _ _ _ _ c.loop-turn.count b c.finish.result run c.loop-turn.invariant.within c.in-End.ensures.bytes.1 told
    (c.finish.ensures.whole (place_of task run.bytes) (last_line [] run.bytes) run.stands)

pub returns-in-End-clause-cut_off : goal.returns-in-End-clause-cut_off
returns-in-End-clause-cut_off g c task stands =
    let run = c.loop-turn.invariant.run task stands in
    end_cut task 67108864 _ _ _ _ _ _ _ c.loop-turn.count c.finish.result run c.loop-turn.invariant.within c.in-End.ensures.bytes.0 c.in-End.ensures.bytes.1
    c.finish.ensures.no_read (c.finish.ensures.part (place_of task run.bytes) (last_line [] run.bytes) run.stands)

pub returns-in-Some-clause-status : goal.returns-in-Some-clause-status
returns-in-Some-clause-status g c task b stands told =
    let run = c.loop-turn.invariant.run task stands in
    let piece = take c.in-Got.taken c.read.new.buf in
    read_status_told task 67108864 (67108864 - c.loop-turn.count) c.loop-turn.count c.in-Some.status _ _ _ _ _ _ _ piece b run
    c.loop-turn.invariant.within refl c.in-Got.ensures.bytes.2 (c.in-Some.ensures.took (place_of task run.bytes) (last_line [] run.bytes) run.stands) told

pub returns-in-Some-clause-text : goal.returns-in-Some-clause-text
returns-in-Some-clause-text g c task b stands told =
    let run = c.loop-turn.invariant.run task stands in
    let piece = take c.in-Got.taken c.read.new.buf in
    read_text_told task 67108864 (67108864 - c.loop-turn.count) c.loop-turn.count c.in-Some.status _ _ _ _ _ _ _ piece b run
    c.loop-turn.invariant.within refl c.in-Got.ensures.bytes.2 (c.in-Some.ensures.took (place_of task run.bytes) (last_line [] run.bytes) run.stands) told

pub returns-in-Some-clause-cut_off : goal.returns-in-Some-clause-cut_off
returns-in-Some-clause-cut_off g c task stands =
    let run = c.loop-turn.invariant.run task stands in
    let piece = take c.in-Got.taken c.read.new.buf in
    read_cut task 67108864 (67108864 - c.loop-turn.count) c.loop-turn.count c.in-Some.status _ _ _ _ _ _ _ piece run
    c.loop-turn.invariant.within refl c.in-Got.ensures.bytes.2 (c.in-Some.ensures.took (place_of task run.bytes) (last_line [] run.bytes) run.stands)
    (λ e. c.in-Some.ensures.no_read (ap Some e))

pub loop-turn-init : goal.loop-turn-init
loop-turn-init g c = record {
  turns = omega arith;
  within = omega arith;
  counted = omega (arith, c.requires.counted);
  run = λ task stands. run_none task _ _ _ stands;
  work = λ task stands. run_works_none task _ _ _ _ _ _ _ stands (begins c.args.job.now.stage (λ v. (g.dyn-1.0.entry v).1) task stands.0);
  source_later = omega arith;
  sink_later = omega arith;
}

pub loop-turn-preserved : goal.loop-turn-preserved
loop-turn-preserved g c =
    let piece = take c.in-Got.taken c.read.new.buf in
    let len : length piece ≡ c.in-Got.taken = omega (arith, length-take c.in-Got.taken c.read.new.buf, c.in-Got.ensures.bytes.1) in
    record {
      turns = omega (arith, c.in-Got.ensures.bytes.0);
      within = omega (arith, c.in-None.ensures.fits refl, len);
      counted = omega (arith, c.in-None.ensures.counted refl, len);
      run = λ task stands.
          let run = c.loop-turn.invariant.run task stands in
          let took = c.in-None.ensures.took (place_of task run.bytes) (last_line [] run.bytes) run.stands in
          run_more task _ _ _ _ _ _ _ _ piece c.loop-turn.count _ run c.in-Got.ensures.bytes.2 (omega (arith, len)) took.1;
      work = λ task stands.
          let so_far = c.loop-turn.invariant.work task stands in
          let r = so_far.run.bytes in
          let took = c.in-None.ensures.took (place_of task r) (last_line [] r) so_far.works.stands in
          run_works_more task _ _ _ _ _ _ _ _ _ _ piece c.loop-turn.count _ _ _ _ _ _ _ _ _ _ so_far c.in-Got.ensures.bytes.2 (omega (arith, len)) took.1
          (c.in-None.ensures.work (frames_of task r) (place_of task r) (last_line [] r) so_far.works.stands so_far.works.caused);
      source_later = omega arith;
      sink_later = omega arith;
    }

pub returns-in-End-clause-at_end : goal.returns-in-End-clause-at_end
returns-in-End-clause-at_end g c task stands done =
    let P : Option (List ℕ) → Type 0 = λ left. IsAtEnd left in subst P (sym c.in-End.ensures.bytes.0) c.in-End.ensures.bytes.1

pub returns-in-Some-clause-at_end : goal.returns-in-Some-clause-at_end
returns-in-Some-clause-at_end g c task stands done =
    let run = c.loop-turn.invariant.run task stands in
    let ends = c.in-Some.ensures.took (place_of task run.bytes) (last_line [] run.bytes) run.stands in
    absurd (never_done c.in-Some.status _ ends.answer done)

pub returns-in-Failed-clause-answered : goal.returns-in-Failed-clause-answered
returns-in-Failed-clause-answered g c task stands =
    failed_answered task 67108864 _ _ _ _ _ _ _ c.loop-turn.count (c.loop-turn.invariant.run task stands) c.in-Failed.ensures.bytes

pub returns-in-End-clause-answered : goal.returns-in-End-clause-answered
returns-in-End-clause-answered g c task stands =
    let run = c.loop-turn.invariant.run task stands in
    end_answered task 67108864 _ _ _ _ _ _ _ c.loop-turn.count c.finish.result run c.loop-turn.invariant.within c.in-End.ensures.bytes.0
    (c.finish.ensures.status (place_of task run.bytes) (last_line [] run.bytes) run.stands)
    (c.finish.ensures.whole (place_of task run.bytes) (last_line [] run.bytes) run.stands)

pub returns-in-Some-clause-answered : goal.returns-in-Some-clause-answered
returns-in-Some-clause-answered g c task stands =
    let run = c.loop-turn.invariant.run task stands in
    let piece = take c.in-Got.taken c.read.new.buf in
    read_answered task 67108864 (67108864 - c.loop-turn.count) c.loop-turn.count c.in-Some.status _ _ _ _ _ _ _ piece run
    c.loop-turn.invariant.within refl c.in-Got.ensures.bytes.2 (c.in-Some.ensures.took (place_of task run.bytes) (last_line [] run.bytes) run.stands)

pub finish-requires-clause-holds : goal.finish-requires-clause-holds
finish-requires-clause-holds g c =
    let task = c.requires.holds.0 in
    let run = c.loop-turn.invariant.run task c.requires.holds.1 in
    (place_of task run.bytes, last_line [] run.bytes, run.stands)

pub take_read-requires-clause-holds : goal.take_read-requires-clause-holds
take_read-requires-clause-holds g c =
    let task = c.requires.holds.0 in
    let run = c.loop-turn.invariant.run task c.requires.holds.1 in
    (place_of task run.bytes, last_line [] run.bytes, run.stands)

pub returns-in-Failed-clause-work : goal.returns-in-Failed-clause-work
returns-in-Failed-clause-work g c task b stands told =
    failed_work_told task 67108864 _ _ _ _ _ _ c.loop-turn.count b _ _ _ _ _ _ (c.loop-turn.invariant.work task stands) c.loop-turn.invariant.within told

pub returns-in-Failed-clause-answered_within : goal.returns-in-Failed-clause-answered_within
returns-in-Failed-clause-answered_within g c task stands =
    failed_worked task 67108864 _ _ _ _ _ _ _ c.loop-turn.count _ _ _ _ _ _ (c.loop-turn.invariant.work task stands) c.loop-turn.invariant.within c.in-Failed.ensures.bytes

pub returns-in-End-clause-work : goal.returns-in-End-clause-work
returns-in-End-clause-work g c task b stands told =
    let so_far = c.loop-turn.invariant.work task stands in
    let r = so_far.run.bytes in
    end_work_told task 67108864 _ _ _ _ _ _ c.loop-turn.count b c.finish.result _ _ _ _ _ _ _ _ _ so_far c.loop-turn.invariant.within c.in-End.ensures.bytes.1 told
    (c.finish.ensures.work (frames_of task r) (place_of task r) (last_line [] r) so_far.works.stands so_far.works.caused)

pub returns-in-End-clause-answered_within : goal.returns-in-End-clause-answered_within
returns-in-End-clause-answered_within g c task stands =
    let so_far = c.loop-turn.invariant.work task stands in
    let r = so_far.run.bytes in
    end_worked task 67108864 _ _ _ _ _ _ _ _ c.loop-turn.count c.finish.result _ _ _ _ _ _ _ _ _ so_far c.loop-turn.invariant.within c.in-End.ensures.bytes.0
    (c.finish.ensures.status (place_of task r) (last_line [] r) so_far.works.stands)
    (c.finish.ensures.whole (place_of task r) (last_line [] r) so_far.works.stands)
    (c.finish.ensures.work (frames_of task r) (place_of task r) (last_line [] r) so_far.works.stands so_far.works.caused)

pub returns-in-Some-clause-work : goal.returns-in-Some-clause-work
returns-in-Some-clause-work g c task b stands told =
    let so_far = c.loop-turn.invariant.work task stands in
    let r = so_far.run.bytes in
    let piece = take c.in-Got.taken c.read.new.buf in
    read_work_told task 67108864 (67108864 - c.loop-turn.count) _ _ _ _ _ _ _ c.loop-turn.count piece b c.in-Some.status _ _ _ _ _ _ _ _ _ so_far
    c.loop-turn.invariant.within refl c.in-Got.ensures.bytes.2 told
    (c.in-Some.ensures.work (frames_of task r) (place_of task r) (last_line [] r) so_far.works.stands so_far.works.caused)

pub returns-in-Some-clause-answered_within : goal.returns-in-Some-clause-answered_within
returns-in-Some-clause-answered_within g c task stands =
    let so_far = c.loop-turn.invariant.work task stands in
    let r = so_far.run.bytes in
    let piece = take c.in-Got.taken c.read.new.buf in
    read_worked task 67108864 (67108864 - c.loop-turn.count) c.loop-turn.count c.in-Some.status _ _ _ _ _ _ _ _ piece _ _ _ _ _ _ _ _ _ so_far
    c.loop-turn.invariant.within refl c.in-Got.ensures.bytes.2 (c.in-Some.ensures.took (place_of task r) (last_line [] r) so_far.works.stands)
    (c.in-Some.ensures.work (frames_of task r) (place_of task r) (last_line [] r) so_far.works.stands so_far.works.caused)
