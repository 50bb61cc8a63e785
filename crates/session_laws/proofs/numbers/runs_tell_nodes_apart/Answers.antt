use Rattle.plain_tree.specs.Laws.{laid_numbers_of}
use Rattle.live_session.specs.RunState.{first_run}
use Rattle.live_session.specs.Tweens.{with_values}
use Rattle.session_laws.specs.Runs.{run_after}
use Rattle.session_laws.specs.Sound.{IsSoundState}
use Rattle.session_laws.proofs.RunClosed.{by_values, after_all}
use Rattle.session_laws.proofs.NumberLemmas.{with_zero, shown_apart, tree_apart}
use Rattle.session_laws.proofs.numbers.runs_tell_nodes_apart.Goals as goal

pub returns-clause-focus : goal.returns-clause-focus
returns-clause-focus c = λ p ds es shown checked is.
    let changed = c.sound_changes.ensures.changed in
    let framed = c.sound_changes.ensures.framed in
    let sound = after_all IsSoundState changed framed (first_run p ds) es (c.sound_changes.ensures.first p ds checked) in
    let differ = (shown_apart (run_after p ds es).session shown sound.numbers is).differ in
    (c.order_has_each_once.ensures.each shown.laid differ, c.order_has_each_once.ensures.once shown.laid differ)

pub returns-clause-semantics : goal.returns-clause-semantics
returns-clause-semantics c = λ p ds es shown checked is.
    let changed = c.sound_changes.ensures.changed in
    let framed = c.sound_changes.ensures.framed in
    let sound = after_all IsSoundState changed framed (first_run p ds) es (c.sound_changes.ensures.first p ds checked) in
    let s = (run_after p ds es).session in
    c.ids_differ.ensures shown.laid (with_zero s.next (laid_numbers_of shown.laid) (shown_apart s shown sound.numbers is))

pub returns-clause-hits : goal.returns-clause-hits
returns-clause-hits c = λ p ds es shown at checked is.
    let changed = c.sound_changes.ensures.changed in
    let framed = c.sound_changes.ensures.framed in
    let sound = after_all IsSoundState changed framed (first_run p ds) es (c.sound_changes.ensures.first p ds checked) in
    c.hit_paths_keep_order.ensures.once shown.laid at (shown_apart (run_after p ds es).session shown sound.numbers is).differ

pub returns-clause-offsets : goal.returns-clause-offsets
returns-clause-offsets c = λ p ds es tree s r view checked is one.
    let changed = c.sound_changes.ensures.changed in
    let framed = c.sound_changes.ensures.framed in
    let sound = after_all IsSoundState changed framed (first_run p ds) es (c.sound_changes.ensures.first p ds checked) in
    c.corrected_offsets_stay.ensures.trees s tree r view (tree_apart (run_after p ds es).session tree sound.numbers is).differ one

pub returns-clause-frames : goal.returns-clause-frames
returns-clause-frames c = λ p ds es tree next checked is.
    let changed = c.sound_changes.ensures.changed in
    let framed = c.sound_changes.ensures.framed in
    let r = run_after p ds es in
    let sound = after_all IsSoundState changed framed (first_run p ds) es (c.sound_changes.ensures.first p ds checked) in
    let before = by_values IsSoundState changed framed r.session.time r.tweens r.session sound in
    c.frames_show_their_tree.ensures.frames (with_values r.session.time r.tweens r.session) tree next before.numbers.placed is
