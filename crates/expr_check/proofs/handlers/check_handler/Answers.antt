use Rattle.std.proofs.Common.{map, Ok, ap, sym, ◌∙◌}
use Rattle.program_form.specs.HandlerView.{plain_set, plain_handler}
use Rattle.expr_check.specs.ScopeView.{plain_names}
use Rattle.expr_check.specs.Handlers.{checked_handler}
use Rattle.expr_check.proofs.HandlerLemmas.{checked_handler-typed}
use Rattle.expr_check.proofs.handlers.check_handler.Goals as goal

pub returns-clause-typed : goal.returns-clause-typed
returns-clause-typed c =
    let names = plain_names c.args.names.now in
    checked_handler-typed names (plain_handler c.args.handler.now) c.of.result
    (ap (λ sets. checked_handler names (map plain_set sets)) (sym c.as_slice.ensures.value) ∙ c.in_ok-sets.ensures ∙ ap Ok (sym c.of.ensures))
