use Rattle.build_form.specs.Program.{blueprint_of}
use Rattle.session_form.specs.Framing.{screen_of}
use Rattle.live_session.specs.RunState.{first_run}
use Rattle.session_laws.specs.Runs.{run_after}
use Rattle.session_laws.proofs.TweenRuns.{BuildFacts, cancelled_gone, lines_keep}
use Rattle.session_laws.proofs.WayLemmas.{none_in}
use Rattle.session_laws.proofs.tweens.tweens_are_cancelled_with_their_nodes.Goals as goal

pub returns : goal.returns
returns c = λ p ds es t checked ranges there cancelled.
    let facts : BuildFacts =
    λ s tree next sound made. (
      (c.survivors.ensures.whole (blueprint_of s.program) (screen_of s) s.tree s.next next s.root tree sound.numbers.placed made).grows,
      c.builds_are_well_built.ensures.whole s.program (screen_of s) s.tree s.next next s.root tree sound.program sound.tree sound.root made,
      c.states_survive.ensures.whole (blueprint_of s.program) (screen_of s) s.tree s.next next s.root tree sound.numbers.placed made,
    ) in
    let changed = c.sound_changes.ensures.changed in
    let framed = c.sound_changes.ensures.framed in
    let all = lines_keep changed framed facts es (first_run p ds) ranges (c.sound_changes.ensures.first p ds checked) (λ x h. absurd (none_in x h)) in
    let r = run_after p ds es in
    let keeps = all t there in
    cancelled_gone changed r.session.time r.session r.tweens t keeps.0 keeps.1 cancelled
