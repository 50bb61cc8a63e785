-- How far the nodes of a tree are scrolled.
use Rattle.std.specs.Prelude.{ℕ, Option, Some, None}
use Rattle.plain_tree.specs.PlainNode.{PlainNode, scroll_of}
use Rattle.session_form.specs.Handlers.{node_in}

abbrev pub offset_of : Option PlainNode → ℕ
offset_of None = 0
offset_of (Some n) = scroll_of n

-- how far the node with a number is scrolled; where there is none, not at all
abbrev pub offsets_in : Option PlainNode → ℕ → ℕ
offsets_in tree number = offset_of (node_in tree number)
