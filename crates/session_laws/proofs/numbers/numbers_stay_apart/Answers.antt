use Rattle.live_session.specs.RunState.{first_run}
use Rattle.session_laws.specs.Sound.{IsSoundState}
use Rattle.session_laws.proofs.Closed.{after_command}
use Rattle.session_laws.proofs.RunClosed.{by_values, after_entry, after_all}
use Rattle.session_laws.proofs.numbers.numbers_stay_apart.Goals as goal

pub returns-clause-first : goal.returns-clause-first
returns-clause-first c = c.sound_changes.ensures.first

pub returns-clause-step : goal.returns-clause-step
returns-clause-step c = λ s k h. after_command IsSoundState c.sound_changes.ensures.changed c.sound_changes.ensures.framed s k h

pub returns-clause-entry : goal.returns-clause-entry
returns-clause-entry c = λ r e h. after_entry IsSoundState c.sound_changes.ensures.changed c.sound_changes.ensures.framed r e h

pub returns-clause-values : goal.returns-clause-values
returns-clause-values c = λ r h. by_values IsSoundState c.sound_changes.ensures.changed c.sound_changes.ensures.framed r.session.time r.tweens r.session h

pub returns-clause-sound : goal.returns-clause-sound
returns-clause-sound c = λ p ds es checked.
    after_all IsSoundState c.sound_changes.ensures.changed c.sound_changes.ensures.framed (first_run p ds) es (c.sound_changes.ensures.first p ds checked)

pub returns-clause-run : goal.returns-clause-run
returns-clause-run c = λ p ds es checked.
    (after_all IsSoundState c.sound_changes.ensures.changed c.sound_changes.ensures.framed (first_run p ds) es (c.sound_changes.ensures.first p ds checked)).numbers
