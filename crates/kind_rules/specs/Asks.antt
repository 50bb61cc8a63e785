-- Whom a node asks.
use Rattle.std.specs.Prelude.{ℕ, zero, suc, Option, Some, None, List, [], ◌∷◌}
use Rattle.layout_form.specs.declared.asks.Ask.{Ask}
use Rattle.kind_rules.specs.declared.asks.Asks.{Asks}
use Rattle.kind_rules.specs.declared.asks.Asks.TheVariants.{Alike, Each}
use Rattle.kind_rules.specs.Few.{items_of}

-- the same of so many
abbrev pub alike : ℕ → Option Ask → List (Option Ask)
alike zero ask = []
alike (suc n) ask = ask ∷ alike n ask

-- what the children are asked, in order
abbrev pub asks_of : Asks → List (Option Ask)
asks_of (Alike ask count) = alike count ask
asks_of (Each asks) = items_of asks
