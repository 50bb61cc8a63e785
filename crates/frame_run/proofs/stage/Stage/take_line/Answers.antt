use Rattle.frame_run.specs.Job.{StageStands}
use Rattle.frame_run.specs.Text.{after_line}
use Rattle.frame_run.specs.declared.stage.Stage.TheVariants.{Running}
use Rattle.frame_run.proofs.PlaceLemmas.{script_somewhere, line_stopped, line_stopped_text}
use Rattle.frame_run.proofs.WentLemmas.{went_as, caused_in, went_checked, went_stopped, went_stops, went_script}
use Rattle.frame_run.specs.Works.{IsScriptCaused, IsStageCaused}
use Rattle.frame_run.specs.Work.{line_work}
use Rattle.frame_run.proofs.stage.Stage.take_line.Goals as goal

pub returns-in-Some-clause-stands : goal.returns-in-Some-clause-stands
returns-in-Some-clause-stands g c place raw stands holds =
    let here : StageStands (Running c.in-Running.script) (λ v. (g.dyn-1.0.entry v).1) place raw = rw (← c.in-Running.is) stands in
    rw c.stop.ensures
    (line_stopped c.in-Running.script c.take_line.new.self c.in_ok-take_line-in-Running.field-0 c.in-Some.stop (λ v. (g.dyn-1.0.entry v).1) place raw
    here c.in-Some.is (λ s lines some held. c.in_ok-take_line-in-Running.ensures.lands s lines some raw held holds))

pub returns-in-Some-clause-text : goal.returns-in-Some-clause-text
returns-in-Some-clause-text g c place raw stands holds =
    let here : StageStands (Running c.in-Running.script) (λ v. (g.dyn-1.0.entry v).1) place raw = rw (← c.in-Running.is) stands in
    line_stopped_text c.in-Running.script (λ v. (g.dyn-1.0.entry v).1) place raw c.args.out.now.items c.take_line.new.out.items
    here (λ s lines some held. c.in_ok-take_line-in-Running.ensures.text s lines some raw held holds)

pub take_line-requires-clause-holds : goal.take_line-requires-clause-holds
take_line-requires-clause-holds g c = λ _.
    let here = c.requires.holds in
    let stands : StageStands (Running c.in-Running.script) (λ v. (g.dyn-1.0.entry v).1) here.0 here.1 = rw (← c.in-Running.is) here.2 in
    script_somewhere c.in-Running.script (λ v. (g.dyn-1.0.entry v).1) here.0 here.1 stands

pub returns-in-None-clause-work : goal.returns-in-None-clause-work
returns-in-None-clause-work g c frames place raw stands caused holds =
    let here : StageStands (Running c.in-Running.script) (λ v. (g.dyn-1.0.entry v).1) place raw = rw (← c.in-Running.is) stands in
    let first = caused_in c.args.self.now (Running c.in-Running.script) frames place c.in-Running.is caused in
    went_as (IsScriptCaused c.take_line.new.self) (IsStageCaused (Running c.take_line.new.self)) frames (after_line place raw) (line_work frames place raw) _ _ _ _ _ _ (λ h. h)
    (went_script c.in-Running.script c.take_line.new.self (λ v. (g.dyn-1.0.entry v).1) frames place raw _ _ _ _ _ _ here first
    (λ s lines some held known. c.in_ok-take_line-in-Running.ensures.work frames s lines some raw held known holds))

pub returns-in-Some-clause-work : goal.returns-in-Some-clause-work
returns-in-Some-clause-work g c frames place raw stands caused holds =
    let here : StageStands (Running c.in-Running.script) (λ v. (g.dyn-1.0.entry v).1) place raw = rw (← c.in-Running.is) stands in
    let first = caused_in c.args.self.now (Running c.in-Running.script) frames place c.in-Running.is caused in
    went_stops c.stop.new.self c.in-Some.stop (IsScriptCaused c.take_line.new.self) frames (after_line place raw) (line_work frames place raw) _ _ _ _ _ _ c.stop.ensures
    (went_script c.in-Running.script c.take_line.new.self (λ v. (g.dyn-1.0.entry v).1) frames place raw _ _ _ _ _ _ here first
    (λ s lines some held known. c.in_ok-take_line-in-Running.ensures.work frames s lines some raw held known holds))

pub returns-in-Checked-clause-work : goal.returns-in-Checked-clause-work
returns-in-Checked-clause-work g c frames place raw stands caused holds =
    went_checked c.args.self.now frames (after_line place raw) (line_work frames place raw) _ _ _ c.in-Checked.is

pub returns-in-Stopped-clause-work : goal.returns-in-Stopped-clause-work
returns-in-Stopped-clause-work g c frames place raw stands caused holds =
    went_stopped c.args.self.now _ frames (after_line place raw) (line_work frames place raw) _ _ _ c.in-Stopped.is

pub returns-in-Reading-clause-work : goal.returns-in-Reading-clause-work
returns-in-Reading-clause-work g c frames place raw stands caused holds = c.take_program_line.ensures.work frames place raw _ _ _ stands caused holds
