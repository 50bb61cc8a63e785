use Rattle.std.proofs.Common.{◌∙◌, None, true, refl, sym}
use Rattle.frame_run.specs.Job.{ScriptStands}
use Rattle.frame_run.specs.declared.script.Asked.TheVariants.{Refused}
use Rattle.frame_run.proofs.StepLemmas.{lands_asked, lands_entry, text_entry}
use Rattle.frame_run.proofs.WentLemmas.{went_nothing, went_refused, went_asked_ok}
use Rattle.frame_run.proofs.stage.Script.take_asked.Goals as goal

pub returns-in-Entry-clause-lands : goal.returns-in-Entry-clause-lands
returns-in-Entry-clause-lands g c s lines some raw stands holds =
    lands_entry _ _ _ s lines some raw _ (sym (c.in_ok-asked.ensures.value raw holds) ∙ c.in-Entry.is)
    (c.take_entry.ensures.lands s lines some stands)

pub returns-in-Entry-clause-text : goal.returns-in-Entry-clause-text
returns-in-Entry-clause-text g c s lines some raw stands holds =
    text_entry c.take_entry.result s lines raw c.args.out.now.items c.take_entry.new.out.items _ (sym (c.in_ok-asked.ensures.value raw holds) ∙ c.in-Entry.is)
    (c.take_entry.ensures.text s lines some stands)

pub returns-in_ok-refuse-in-Refused-clause-lands : goal.returns-in_ok-refuse-in-Refused-clause-lands
returns-in_ok-refuse-in-Refused-clause-lands g c s lines some raw stands holds =
    let lands : ScriptStands c.refuse.new.self (λ v. (g.dyn-1.0.entry v).1) s lines true =
    (rw c.in_ok-refuse-in-Refused.ensures.live stands.0, c.in_ok-refuse-in-Refused.ensures.lines ∙ stands.1, rw c.in_ok-refuse-in-Refused.ensures.refused refl) in
    lands_asked None c.refuse.new.self (λ v. (g.dyn-1.0.entry v).1) s lines some raw (Refused c.in-Refused.refusal) (sym (c.in_ok-asked.ensures.value raw holds) ∙ c.in-Refused.is) lands

pub returns-in-Nothing-clause-work : goal.returns-in-Nothing-clause-work
returns-in-Nothing-clause-work g c frames s lines some raw stands caused holds =
    went_nothing c.args.self.now c.args.self.now.live frames s lines some raw _ _ _ (sym (c.in_ok-asked.ensures.value raw holds) ∙ c.in-Nothing.is) refl caused

pub returns-in-Entry-clause-work : goal.returns-in-Entry-clause-work
returns-in-Entry-clause-work g c frames s lines some raw stands caused holds =
    went_asked_ok c.take_entry.result c.take_entry.new.self frames s lines some raw _ _ _ _ _ _ _ (sym (c.in_ok-asked.ensures.value raw holds) ∙ c.in-Entry.is)
    (c.take_entry.ensures.work frames s lines some stands caused)

pub returns-in_ok-refuse-in-Refused-clause-work : goal.returns-in_ok-refuse-in-Refused-clause-work
returns-in_ok-refuse-in-Refused-clause-work g c frames s lines some raw stands caused holds =
    went_refused c.refuse.new.self c.args.self.now.live frames s lines some raw (Refused c.in-Refused.refusal) _ _ _ (sym (c.in_ok-asked.ensures.value raw holds) ∙ c.in-Refused.is)
    refl c.in_ok-refuse-in-Refused.ensures.live caused
