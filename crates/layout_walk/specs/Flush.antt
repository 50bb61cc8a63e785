-- What a flush leaves of a forest, as a function: each node that has to be laid out, or is asked in other bounds, has its rule run
-- once, by the frames of full layout; a flush of the engine comes to the same, as it meets the laws of walks.
use Rattle.std.specs.Prelude.{ℕ, ◌+◌, Bool, true, false, ◌&&◌, Option, Some, None, List}
use Rattle.fx_handles.specs.declared.Handle.{Handle}
use Rattle.node_tree.specs.Forest.{Forest}
use Rattle.node_tree.specs.Forest.Forest.{none, tree}
use Rattle.layout_form.specs.declared.asks.Ask.{Ask}
use Rattle.layout_walk.specs.Node.{LayoutNode, member}
use Rattle.layout_walk.specs.Rule.{LayoutParts, RuleGift, ask_of, later}
use Rattle.layout_walk.specs.Full.{asks_at, made_at, objects}
use Rattle.layout_walk.specs.Asking.{has_frame, is_due}
use Rattle.layout_walk.specs.Walk.{any_mark, kept_asks, stand_all, ruled, held_back, marked_below}

-- a node that is asked so, above what a flush leaves of its children, however they are asked: one that is due has its rule run,
-- unless it is held back; of any other those children are visited that are in the window and have a mark
-- one that is held back keeps what is below it; where it has the frame that its bounds alone give it is as before
abbrev pub back_node : Bool → LayoutNode → RuleGift → LayoutNode
back_node true v made = v
back_node false v made = held_back v made

abbrev pub one_flushed : LayoutParts → Bool → Bool → Handle → LayoutNode → Ask → Forest LayoutNode → (List (Option Ask) → Forest LayoutNode) → Forest LayoutNode → Forest LayoutNode
one_flushed P true true h v ask kids below rest =
    tree h (back_node (has_frame v.frame (P.fixed (member v) ask)) v (made_at P v ask kids (objects P kids))) kids rest
one_flushed P true false h v ask kids below rest =
    let asks = asks_at P v ask kids (objects P kids) in
    let made = made_at P v ask kids (objects P kids) in
    let after = stand_all asks made.places (below asks) in
    tree h (ruled v made (any_mark after)) after rest
one_flushed P false true h v ask kids below rest = tree h v kids rest
one_flushed P false false h v ask kids below rest =
    let after = below (kept_asks kids) in tree h (marked_below v (any_mark after)) after rest

abbrev pub tree_flushed : LayoutParts → Bool → Option Ask → Handle → LayoutNode → Forest LayoutNode → (List (Option Ask) → Forest LayoutNode) → Forest LayoutNode → Forest LayoutNode
tree_flushed P outer None h v kids below rest = tree h v kids rest
tree_flushed P outer (Some ask) h v kids below rest = one_flushed P (is_due v ask) (outer && P.holds v.look ask) h v ask kids below rest

-- the trees of a forest after a flush that asks them so, an outer one or another
unfoldable pub flushed : LayoutParts → Bool → List (Option Ask) → Forest LayoutNode → Forest LayoutNode
flushed P outer asks none = none
flushed P outer asks (tree h v kids rest) =
    tree_flushed P outer (ask_of asks) h v kids (λ xs. flushed P outer xs kids) (flushed P outer (later asks) rest)

-- how many rules such a flush runs, where that of the node at a handle counts for so much
abbrev pub held_runs : ℕ → Bool → ℕ
held_runs n true = 0
held_runs n false = n

abbrev pub one_runs : ℕ → LayoutParts → Bool → Bool → LayoutNode → Ask → Forest LayoutNode → (List (Option Ask) → ℕ) → ℕ
one_runs n P true true v ask kids below = held_runs n (has_frame v.frame (P.fixed (member v) ask))
one_runs n P true false v ask kids below = n + below (asks_at P v ask kids (objects P kids))
one_runs n P false true v ask kids below = 0
one_runs n P false false v ask kids below = below (kept_asks kids)

abbrev pub tree_runs : ℕ → LayoutParts → Bool → Option Ask → LayoutNode → Forest LayoutNode → (List (Option Ask) → ℕ) → ℕ
tree_runs n P outer None v kids below = 0
tree_runs n P outer (Some ask) v kids below = one_runs n P (is_due v ask) (outer && P.holds v.look ask) v ask kids below

unfoldable pub runs : (Handle → ℕ) → LayoutParts → Bool → List (Option Ask) → Forest LayoutNode → ℕ
runs w P outer asks none = 0
runs w P outer asks (tree h v kids rest) = tree_runs (w h) P outer (ask_of asks) v kids (λ xs. runs w P outer xs kids) + runs w P outer (later asks) rest

-- each of them counts once
abbrev pub one_each : Handle → ℕ
one_each h = 1

abbrev pub ticks : LayoutParts → Bool → List (Option Ask) → Forest LayoutNode → ℕ
ticks P outer asks f = runs one_each P outer asks f
