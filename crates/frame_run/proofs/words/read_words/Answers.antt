use Rattle.std.proofs.Common.{Option, map, string_bytes, Global, codes, option_and_then, ap, sym, subst, ◌∙◌}
use Rattle.clap.specs.Matches.{found_of, first_value}
use Rattle.clap.specs.Simple.{app_of}
use Rattle.clap.specs.Walk.{rows_of}
use Rattle.clap.proofs.WalkLemmas.{first_value-rows}
use Rattle.frame_run.specs.Ranges.{IsInRange}
use Rattle.frame_run.specs.Words.{request_named}
use Rattle.frame_run.specs.declared.words.Request.{Request}
use Rattle.frame_run.proofs.NumberLemmas.{ranges_asked}
use Rattle.frame_run.proofs.WordsLemmas.{faults_of, rows_are, refused_words, accepted_words}
use Rattle.frame_run.proofs.words.read_words.Goals as goal

pub returns-in-Ok-clause-asked : goal.returns-in-Ok-clause-asked
returns-in-Ok-clause-asked c =
    let words = map (string_bytes {Z = Global}) c.args.words.now in
    let rows = rows_of (found_of c.in-Ok.matches) in
    let app = app_of c.in_ok-command.command in
    c.request_in.ensures ∙ ap (option_and_then (λ word. request_named word rows)) (first_value-rows (found_of c.in-Ok.matches) (codes "MODE"))
    ∙ sym (accepted_words words rows (faults_of app words c.in_ok-command.ensures c.in-Ok.ensures.kinds)
    (rows_are app words rows c.in_ok-command.ensures c.in-Ok.ensures.matches))

pub returns-in-Ok-clause-ranges : goal.returns-in-Ok-clause-ranges
returns-in-Ok-clause-ranges c =
    let P : Option Request → Type 0 = λ o. IsInRange o in
    subst P (sym c.request_in.ensures) (ranges_asked (first_value (found_of c.in-Ok.matches) (codes "MODE")) (rows_of (found_of c.in-Ok.matches)))

pub returns-clause-asked : goal.returns-clause-asked
returns-clause-asked c =
    let words = map (string_bytes {Z = Global}) c.args.words.now in
    sym (refused_words (app_of c.in_ok-command.command) words c.in-Err.error c.in_ok-command.ensures c.in-Err.ensures.kinds (λ memory. c.in_default.not-OutOfMemory (c.kind.ensures ∙ memory)))
