-- A semantics node of the program as a plain value: one level, since a node's list is seen as its plain nodes already.
use Rattle.std.specs.Prelude.{Option, Some, None}
use Rattle.std.specs.Borrow.{Bor}
use Rattle.screen_form.specs.Sem.{Sem, sem, sems_of}
use Rattle.semantics_tree.specs.declared.nodes.SemNode.{SemNode}

abbrev pub sem_of : SemNode → Sem
sem_of n = sem n.id n.rect n.label n.button n.tap n.long (sems_of n.children)

-- a tree that is lent, if there is one
abbrev pub lent : Option (Bor SemNode) → Option Sem
lent (Some n) = Some (sem_of n.now)
lent None = None
