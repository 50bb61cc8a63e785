use Rattle.std.proofs.Common.{◌≡◌, ◌∙◌, ap, sym, None, get_or, rules}
use Rattle.kind_rules.specs.declared.asks.Asks.{Asks}
use Rattle.kind_rules.specs.declared.asks.Asks.TheVariants.{Alike}
use Rattle.kind_rules.specs.Asks.{asks_of}
use Rattle.kind_rules.proofs.Alike.{alike_at, alike_past}
use Rattle.kind_rules.proofs.asks.Asks.at.Goals as goal

pub returns-then-i-count : goal.returns-then-i-count
returns-then-i-count c =
    let is : Alike c.in-Alike.ask c.in-Alike.count ≡ c.args.self.now = search rules in
    c.as_ref.ensures.value
    ∙ alike_at c.in-Alike.count c.in-Alike.ask c.args.i c.if-i-count.true
    ∙ ap (λ (a : Asks). get_or (asks_of a) c.args.i None) is

pub returns-else-i-count : goal.returns-else-i-count
returns-else-i-count c =
    let is : Alike c.in-Alike.ask c.in-Alike.count ≡ c.args.self.now = search rules in
    alike_past c.in-Alike.count c.in-Alike.ask c.args.i c.if-i-count.false
    ∙ ap (λ (a : Asks). get_or (asks_of a) c.args.i None) is
