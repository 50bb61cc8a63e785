use Rattle.std.proofs.Common.{◌≡◌, ◌∙◌, None, rules}
use Rattle.std.specs.Str.Parse.{ParsesUnsigned, ExplainsUnsignedError, HasUnsignedDigitsIfOk}
use Rattle.clap.specs.Matches.{found_of, one_text}
use Rattle.frame_run.proofs.NumberLemmas.{number_unread, number_inside}
use Rattle.frame_run.proofs.words.number_in.Goals as goal

pub returns-in_err-number : goal.returns-in_err-number
returns-in_err-number c =
    let gone : c.from_residual.result ≡ None = search rules in
    gone ∙ number_unread (λ bs r. ParsesUnsigned 64 10 bs r × ExplainsUnsignedError 10 bs r × HasUnsignedDigitsIfOk bs r) (λ u x g. g.0)
    c.args.low c.args.high (one_text (found_of c.args.matches.now) c.args.id.now) c.in_err-number.ensures.value

pub returns-then-number-high : goal.returns-then-number-high
returns-then-number-high c =
    number_inside (λ bs r. ParsesUnsigned 64 10 bs r × ExplainsUnsignedError 10 bs r × HasUnsignedDigitsIfOk bs r) (λ u x g. g.0)
    c.args.low c.args.high c.in_ok-number.number (one_text (found_of c.args.matches.now) c.args.id.now)
    c.in_ok-number.ensures.none c.in_ok-number.ensures.value (search rules) (search rules)
