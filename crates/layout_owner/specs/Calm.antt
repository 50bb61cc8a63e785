-- A tree that was laid out: what it has of flags.
use Rattle.std.specs.Prelude.{◌≡◌, true, false}
use Rattle.node_tree.specs.Forest.{Forest}
use Rattle.node_tree.specs.Forest.Forest.{none, tree}
use Rattle.render_tree.specs.Object.{RenderObject}

-- no node in the window has to be laid out
abbrev pub IsLaidCalm : Forest RenderObject → Type 0
IsLaidCalm none = Unit {0}
IsLaidCalm (tree h o below rest) = (o.shown ≡ true → (o.needs_layout ≡ false) × IsLaidCalm below) × IsLaidCalm rest
