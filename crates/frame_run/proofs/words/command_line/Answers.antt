use Rattle.std.proofs.Common.{◌≡◌, ap, ap₂, ◌∙◌, true, rules}
use Rattle.std.proofs.lemmas.Result.{IfOk-weaker}
use Rattle.clap.specs.Simple.{app_of, app_of_fields, on_top, with_rule}
use Rattle.clap.specs.Walk.{rule_of}
use Rattle.frame_run.specs.Words.{mode_rule, seed_rule, size_rule, bare_command, command_line}
use Rattle.frame_run.proofs.words.command_line.Goals as goal

pub returns : goal.returns
unfolding command_line
returns c =
    let mode_is : rule_of c.default_value-mode.result ≡ mode_rule = search rules in
    let seed_is : rule_of c.default_value-seed.result ≡ seed_rule = search rules in
    let size_is : rule_of c.default_value-size.result ≡ size_rule = search rules in
    let named_is : app_of c.no_binary_name-named.result ≡ bare_command =
    ap app_of_fields c.no_binary_name-named.ensures ∙ ap (λ a. on_top (λ s. record s { no_binary_name = true }) a) c.new.ensures.app in
    let first_is : app_of c.in_ok-with_mode.with_mode ≡ with_rule bare_command mode_rule = c.in_ok-with_mode.ensures.shape (search rules) ∙ ap₂ with_rule named_is mode_is in
    let second_is : app_of c.in_ok-with_seed.with_seed ≡ with_rule (with_rule bare_command mode_rule) seed_rule =
    c.in_ok-with_seed.ensures.shape (search rules) ∙ ap₂ with_rule first_is seed_is in
    IfOk-weaker c.arg-3.result _ _ (λ r h. h.shape (search rules) ∙ ap₂ with_rule second_is size_is) c.arg-3.ensures
