-- Full layout of a forest, by the rules: how its trees answer, and the laid trees; and the laid trees that are stored.
use Rattle.std.specs.Prelude.{if◌then◌else◌, Option, Some, None, List, [], ◌∷◌}
use Rattle.fx_geom.specs.declared.shapes.Offset.{Offset}
use Rattle.fx_geom.specs.Offset.{origin}
use Rattle.node_tree.specs.Forest.{Forest}
use Rattle.node_tree.specs.Forest.Forest.{none, tree}
use Rattle.plain_tree.specs.declared.laid.Frame.{Frame}
use Rattle.plain_tree.specs.Laid.{Laid, laid, Laids, no_laids, more_laids}
use Rattle.layout_form.specs.declared.asks.Ask.{Ask}
use Rattle.layout_walk.specs.Node.{LayoutNode, member, members, tellings, frame_or, offset_or, facts_with}
use Rattle.layout_walk.specs.Rule.{RuleGift, LayoutParts, asks_by, made_by, ask_of, later}

-- how a node asks its children, and what is made of it, where they answer so
abbrev pub asks_at : LayoutParts → LayoutNode → Ask → Forest LayoutNode → List (Ask → Frame) → List (Option Ask)
asks_at P v ask kids gs = asks_by P (member v) v.scroll ask (P.liked v.look ask (members kids)) (tellings kids) gs

abbrev pub made_at : LayoutParts → LayoutNode → Ask → Forest LayoutNode → List (Ask → Frame) → RuleGift
made_at P v ask kids gs = made_by P (member v) v.scroll ask (P.liked v.look ask (members kids)) (tellings kids) gs

-- how the trees of a forest answer by full layout
unfoldable pub objects : LayoutParts → Forest LayoutNode → List (Ask → Frame)
objects P none = []
objects P (tree h v kids rest) = (λ ask. (made_at P v ask kids (objects P kids)).facts.frame) ∷ objects P rest

-- the places are those of the children that are asked, in order
abbrev pub place_of : List Offset → Offset
place_of [] = origin
place_of (at ∷ places) = at

abbrev pub past : Option Ask → List Offset → List Offset
past None places = places
past (Some ask) places = later places

-- a laid tree, if it is there, before others
abbrev pub laid_first : Option Ask → (Ask → Laid) → Offset → Laids → Laids
laid_first None layout at ls = ls
laid_first (Some ask) layout at ls = more_laids at (layout ask) ls

-- the laid trees of a forest by full layout, as they are asked, each at its place
unfoldable pub laid_trees : LayoutParts → List (Option Ask) → List Offset → Forest LayoutNode → Laids
laid_trees P asks places none = no_laids
laid_trees P asks places (tree h v kids rest) =
    laid_first (ask_of asks)
    (λ ask. let gs = objects P kids in
    laid v.number v.look (made_at P v ask kids gs).facts (laid_trees P (asks_at P v ask kids gs) (made_at P v ask kids gs).places kids))
    (place_of places)
    (laid_trees P (later asks) (past (ask_of asks) places) rest)

-- the laid tree that full layout gives to a node, as it is asked
abbrev pub laid_node : LayoutParts → LayoutNode → Ask → Forest LayoutNode → Laid
laid_node P v ask kids =
    let gs = objects P kids in
    laid v.number v.look (made_at P v ask kids gs).facts (laid_trees P (asks_at P v ask kids gs) (made_at P v ask kids gs).places kids)

-- the laid trees that are stored: of the nodes in the window alone
unfoldable pub shown_trees : Forest LayoutNode → Laids
shown_trees none = no_laids
shown_trees (tree h v kids rest) =
    if v.shown
    then more_laids (offset_or v.offset) (laid v.number v.look (facts_with v (frame_or v.frame)) (shown_trees kids)) (shown_trees rest)
    else shown_trees rest
