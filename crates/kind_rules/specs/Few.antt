-- Short lists.
use Rattle.std.specs.Prelude.{List, [], ◌∷◌}
use Rattle.kind_rules.specs.declared.few.Few.{Few}
use Rattle.kind_rules.specs.declared.few.Few.TheVariants.{Empty, Alone, Each}

abbrev pub items_of : {T : Type 0} → Few T → List T
items_of Empty = []
items_of (Alone entry) = entry ∷ []
items_of (Each entries) = entries.items
