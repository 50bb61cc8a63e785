-- When the layout of a node tells nothing above it, by its members as they are now.
use Rattle.std.specs.Prelude.{◌≡◌, ◌⊎◌, Bool, true, false, ◌||◌, ◌&&◌, is_some}
use Rattle.node_tree.specs.Forest.{Forest}
use Rattle.node_tree.specs.Forest.Forest.{none, tree}
use Rattle.tree_marks.specs.Closed.{is_apart}
use Rattle.tree_marks.specs.Marking.{Above}
use Rattle.render_tree.specs.Marks.{layout_marks, is_shown}
use Rattle.render_tree.specs.Object.{RenderObject, object_look, sliver_in}
use Rattle.layout_walk.specs.Here.{IsGiven, HaveFixed}
use Rattle.layout_walk.specs.Node.{LayoutNode, stored}
use Rattle.layout_walk.specs.Rule.{LayoutParts}
use Rattle.layout_walk.specs.Rules.{is_list}

-- the law of nodes that needn't be laid out: what is stored of one is what its rule makes of its children's frames, and each child in
-- the window whose frame its bounds alone give has that frame; nobody reads those of a child that is offstage
abbrev pub AreSettled : LayoutParts → Forest LayoutNode → Type 0
AreSettled P none = Unit {0}
AreSettled P (tree h v kids rest) =
    (v.needs_layout ≡ false → IsGiven P v kids (stored kids) × ((P.blind v.look ≡ true) ⊎ HaveFixed P kids))
    × AreSettled P kids × AreSettled P rest

-- a lazy list that was laid out in a view goes as far as its own members say
abbrev pub is_laid_list : RenderObject → Bool
is_laid_list o = is_some (sliver_in o.frame) && is_list (object_look o)

-- the parent is offstage, or the node isn't in the window, or by its members and the bounds of its last layout it tells nothing right
-- above it; or it is such a list
abbrev pub stands_apart : Above → RenderObject → Bool
stands_apart p o = p.hidden || (is_apart layout_marks is_shown p o || is_laid_list o)
