-- The laid tree that the screen shows, and what is read off it.
use Rattle.std.specs.Prelude.{Option, Some, None, List, [], is_some, if◌then◌else◌}
use Rattle.node_tree.specs.Forest.{Forest}
use Rattle.node_tree.specs.Forest.Forest.{none, tree}
use Rattle.node_tree.specs.Tree.{Tree}
use Rattle.plain_tree.specs.Laid.{Laid}
use Rattle.render_tree.specs.Object.{RenderObject}
use Rattle.render_tree.specs.Plain.{laid_of, root_tree}

-- the laid tree of a root that was laid out
abbrev pub laid_once : Forest RenderObject → Option Laid
laid_once none = None
laid_once (tree h o below rest) = if is_some o.frame then laid_of (tree h o below rest) else None

-- the laid tree of the root; before the first layout there is none: where there is no root, or where it was never laid out
abbrev pub shown_laid : Tree RenderObject → Option Laid
shown_laid t = laid_once (root_tree t)

-- what is read off a laid tree; of none nothing is
abbrev pub read_off : {A : Type 0} → (Laid → List A) → Option Laid → List A
read_off read None = []
read_off read (Some l) = read l
