-- A node that is lent, or none.
use Rattle.std.specs.Prelude.{Option, Some, None}
use Rattle.std.specs.Borrow.{Bor}
use Rattle.plain_tree.specs.PlainNode.{PlainNode}

abbrev pub lent : Option (Bor PlainNode) → Option PlainNode
lent None = None
lent (Some n) = Some n.now
