use Rattle.build_form.specs.Program.{blueprint_of}
use Rattle.session_form.specs.Framing.{screen_of}
use Rattle.live_session.specs.RunState.{first_run}
use Rattle.session_laws.specs.Runs.{run_after}
use Rattle.session_laws.proofs.TweenFrames.{run_apart}
use Rattle.session_laws.proofs.TweenRuns.{BuildFacts, lines_keep, shows_value}
use Rattle.session_laws.proofs.WayLemmas.{none_in}
use Rattle.session_laws.proofs.tweens.tweens_show_their_values.Goals as goal

pub returns : goal.returns
returns c = λ p ds es next text t checked ranges there is stays.
    let facts : BuildFacts =
    λ s tree next sound made. (
      (c.survivors.ensures.whole (blueprint_of s.program) (screen_of s) s.tree s.next next s.root tree sound.numbers.placed made).grows,
      c.builds_are_well_built.ensures.whole s.program (screen_of s) s.tree s.next next s.root tree sound.program sound.tree sound.root made,
      c.states_survive.ensures.whole (blueprint_of s.program) (screen_of s) s.tree s.next next s.root tree sound.numbers.placed made,
    ) in
    let changed = c.sound_changes.ensures.changed in
    let framed = c.sound_changes.ensures.framed in
    let all = lines_keep changed framed facts es (first_run p ds) ranges (c.sound_changes.ensures.first p ds checked) (λ x h. absurd (none_in x h)) in
    let apart = run_apart c.tweens_stay_apart.ensures.next es (first_run p ds) (c.tweens_stay_apart.ensures.first (first_run p ds).session) in
    shows_value changed framed facts c.running_tweens_keep_time.ensures (run_after p ds es) next text t apart all there is stays
