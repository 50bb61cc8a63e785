use Rattle.std.proofs.Common.{ap, rules, ◌∙◌, ◌+◌, nat_lt}
use Rattle.std.proofs.lemmas.Fn.{filter_same}
use Rattle.tickers.specs.Running.{unfinished}
use Rattle.tickers.proofs.tickers.Tickers.finish.Goals as goal

pub returns : goal.returns
returns c =
    filter_same _ (λ t. nat_lt c.args.now (t.start + t.ms)) _ (λ x b f' k. search rules) _ _ c.retain.ensures.filtered
    ∙ ap (unfinished c.args.now) c.self.view_is
