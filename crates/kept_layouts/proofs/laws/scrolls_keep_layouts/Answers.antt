use Rattle.kept_layouts.proofs.laws.scrolls_keep_layouts.Goals as goal
use Rattle.kept_layouts.proofs.Changes.{scroll_keeps}

pub returns : goal.returns
returns c = λ s. scroll_keeps (record { same = c.asks_are_compared.ensures.frames; itself = c.asks_are_compared.ensures.itself_frame }) s (c.rules_are_lawful.ensures s)
