use Rattle.std.proofs.Common.{ap, rules, ◌∙◌, not}
use Rattle.std.proofs.lemmas.Fn.{filter_same}
use Rattle.tickers.specs.Running.{is_on, cancelled}
use Rattle.tickers.proofs.tickers.Tickers.cancel.Goals as goal

pub returns-clause-changed : goal.returns-clause-changed
returns-clause-changed c =
    filter_same _ (λ t. not (is_on c.args.node c.args.field.now t)) _ (λ x b f' k. search rules) _ _ c.retain.ensures.filtered
    ∙ ap (cancelled c.args.node c.args.field.now) c.self.view_is
