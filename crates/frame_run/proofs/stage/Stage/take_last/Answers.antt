use Rattle.std.proofs.Common.{◌≡◌, [], take, refl, if◌then◌else◌}
use Rattle.frame_run.specs.Job.{StageStands}
use Rattle.frame_run.specs.Lines.{is_mark}
use Rattle.frame_run.specs.Text.{begun}
use Rattle.frame_run.specs.Words.{meant, task_with}
use Rattle.frame_run.specs.declared.stage.Stage.TheVariants.{Reading, Running}
use Rattle.frame_run.proofs.PlaceLemmas.{ended, last_is_line, last_text_is}
use Rattle.frame_run.proofs.WorkLemmas.{within_none}
use Rattle.frame_run.proofs.WentLemmas.{counted_ok}
use Rattle.frame_run.specs.Work.{line_work}
use Rattle.frame_run.proofs.stage.Stage.take_last.Goals as goal

pub returns-in_ok-next-in-Reading-clause-stands : goal.returns-in_ok-next-in-Reading-clause-stands
returns-in_ok-next-in-Reading-clause-stands g c place raw stands holds =
    let part = c.in-Reading.part in
    let here : StageStands (Reading part) (λ v. (g.dyn-1.0.entry v).1) place raw = rw (← c.in-Reading.is) stands in
    let program : c.program-program.result.now ≡ (if is_mark raw then take part.line_start part.bytes.items else part.bytes.items) =
    rw (c.program-program.ensures, c.take_delegates-delegates.ensures.line_start, c.take_delegates-delegates.ensures.bytes, c.is_mark.ensures raw holds) refl in
    let lands : StageStands c.in_ok-next-in-Reading.next (λ v. (g.dyn-1.0.entry v).1)
    (begun (task_with part.mode (meant part.delegates.items (λ v. (g.dyn-1.0.entry v).1))) c.program-program.result.now) [] =
    rw (← c.take_delegates-delegates.ensures.taken, ← c.take_delegates-delegates.ensures.mode) c.in_ok-next-in-Reading.ensures.stands in
    rw c.go_on.ensures
    (ended part c.in_ok-next-in-Reading.next (λ v. (g.dyn-1.0.entry v).1) place raw c.program-program.result.now here program lands)

pub returns-in-Running-clause-stands : goal.returns-in-Running-clause-stands
returns-in-Running-clause-stands g c place raw stands holds =
    let here : StageStands (Running c.in-Running.field-0) (λ v. (g.dyn-1.0.entry v).1) place raw = rw (← c.in-Running.is) stands in
    rw (← last_is_line c.in-Running.field-0 (λ v. (g.dyn-1.0.entry v).1) place raw here) (c.take_line.ensures.stands place raw stands holds)

pub returns-in-Running-clause-text : goal.returns-in-Running-clause-text
returns-in-Running-clause-text g c place raw stands holds =
    let here : StageStands (Running c.in-Running.field-0) (λ v. (g.dyn-1.0.entry v).1) place raw = rw (← c.in-Running.is) stands in
    rw (← last_text_is c.in-Running.field-0 (λ v. (g.dyn-1.0.entry v).1) place raw here) (c.take_line.ensures.text place raw stands holds)

pub returns-in_ok-next-in-Reading-clause-work : goal.returns-in_ok-next-in-Reading-clause-work
returns-in_ok-next-in-Reading-clause-work g c frames place raw stands caused holds = within_none (line_work frames place raw) _ _ _

pub returns-in-Running-clause-work : goal.returns-in-Running-clause-work
returns-in-Running-clause-work g c frames place raw stands caused holds =
    counted_ok c.take_line.result _ frames _ (line_work frames place raw) _ _ _ _ _ _ (c.take_line.ensures.work frames place raw stands caused holds)

pub returns-in-Checked-clause-work : goal.returns-in-Checked-clause-work
returns-in-Checked-clause-work g c frames place raw stands caused holds = within_none (line_work frames place raw) _ _ _

pub returns-in-Stopped-clause-work : goal.returns-in-Stopped-clause-work
returns-in-Stopped-clause-work g c frames place raw stands caused holds = within_none (line_work frames place raw) _ _ _
