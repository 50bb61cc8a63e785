use Rattle.std.proofs.Common.{◌≡◌, ◌∙◌, Some, None, codes, rules}
use Rattle.clap.specs.Matches.{found_of, one_text}
use Rattle.frame_run.specs.Words.{number_in}
use Rattle.frame_run.proofs.NumberLemmas.{demo_no_seed, demo_no_size, demo_both}
use Rattle.frame_run.proofs.words.demo_in.Goals as goal

pub returns-in_err-seed : goal.returns-in_err-seed
returns-in_err-seed c =
    let gone : c.from_residual.result ≡ None = search rules in
    let none : None ≡ number_in 0 4294967295 (one_text (found_of c.args.matches.now) (codes "seed")) = search rules in
    gone ∙ demo_no_seed (found_of c.args.matches.now) none

pub returns-in_err-size : goal.returns-in_err-size
returns-in_err-size c =
    let gone : c.from_residual-in_err-size.result ≡ None = search rules in
    let none : None ≡ number_in 1 4096 (one_text (found_of c.args.matches.now) (codes "size")) = search rules in
    gone ∙ demo_no_size (found_of c.args.matches.now) none

pub returns : goal.returns
returns c =
    let seed : Some c.in_ok-seed.seed ≡ number_in 0 4294967295 (one_text (found_of c.args.matches.now) (codes "seed")) = search rules in
    let size : Some c.in_ok-size.size ≡ number_in 1 4096 (one_text (found_of c.args.matches.now) (codes "size")) = search rules in
    demo_both (found_of c.args.matches.now) c.in_ok-seed.seed c.in_ok-size.size seed size
