-- What is planned for items, as the program says it.
use Rattle.build_walk.specs.Merging.{Serving}
use Rattle.build_owner.specs.declared.merging.PlannedItems.{PlannedItems}

abbrev pub serving_of : {U : Type 0} → PlannedItems U → Serving U
serving_of p = record { children = p.children.items; entries = p.entries.items }
