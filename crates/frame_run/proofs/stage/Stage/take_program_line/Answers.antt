use Rattle.std.proofs.Common.{◌≡◌, ◌∙◌, [], take, refl, sym}
use Rattle.frame_run.specs.Job.{StageStands}
use Rattle.frame_run.specs.Text.{begun}
use Rattle.frame_run.specs.Words.{meant, task_with}
use Rattle.frame_run.specs.declared.stage.Stage.TheVariants.{Reading}
use Rattle.frame_run.proofs.PlaceLemmas.{marked}
use Rattle.frame_run.proofs.WentLemmas.{caused_in, went_mark}
use Rattle.frame_run.specs.Works.{IsCausedFirst}
use Rattle.frame_run.proofs.stage.Stage.take_program_line.Goals as goal

pub returns-then-is_mark-clause-stands : goal.returns-then-is_mark-clause-stands
returns-then-is_mark-clause-stands g c place raw stands holds =
    let part = c.in-Reading.part in
    let here : StageStands (Reading part) (λ v. (g.dyn-1.0.entry v).1) place raw = rw (← c.in-Reading.is) stands in
    let program : c.before_line.result.now ≡ take part.line_start part.bytes.items =
    rw (c.before_line.ensures, c.take_delegates-delegates.ensures.line_start, c.take_delegates-delegates.ensures.bytes) refl in
    let lands : StageStands c.in_ok-next-in-Reading.next (λ v. (g.dyn-1.0.entry v).1)
    (begun (task_with part.mode (meant part.delegates.items (λ v. (g.dyn-1.0.entry v).1))) c.before_line.result.now) [] =
    rw (← c.take_delegates-delegates.ensures.taken, ← c.take_delegates-delegates.ensures.mode) c.in_ok-next-in-Reading.ensures.stands in
    rw c.go_on.ensures
    (marked part c.in_ok-next-in-Reading.next (λ v. (g.dyn-1.0.entry v).1) place raw c.before_line.result.now
    here (sym (c.is_mark.ensures raw holds) ∙ c.if-is_mark.true) program lands)

pub returns-then-is_mark-clause-work : goal.returns-then-is_mark-clause-work
returns-then-is_mark-clause-work g c frames place raw builds layouts paints stands caused holds =
    let part = c.in-Reading.part in
    let here : StageStands (Reading part) (λ v. (g.dyn-1.0.entry v).1) place raw = rw (← c.in-Reading.is) stands in
    let first = caused_in c.args.self.now (Reading part) frames place c.in-Reading.is caused in
    let program : c.before_line.result.now ≡ take part.line_start part.bytes.items =
    rw (c.before_line.ensures, c.take_delegates-delegates.ensures.line_start, c.take_delegates-delegates.ensures.bytes) refl in
    let begins : IsCausedFirst c.in_ok-next-in-Reading.next (begun (task_with part.mode (meant part.delegates.items (λ v. (g.dyn-1.0.entry v).1))) c.before_line.result.now) =
    rw (← c.take_delegates-delegates.ensures.taken, ← c.take_delegates-delegates.ensures.mode) c.in_ok-next-in-Reading.ensures.causes in
    rw c.go_on.ensures
    (went_mark part c.in_ok-next-in-Reading.next (λ v. (g.dyn-1.0.entry v).1) frames place raw c.before_line.result.now _ _ _
    here first (sym (c.is_mark.ensures raw holds) ∙ c.if-is_mark.true) program begins)
