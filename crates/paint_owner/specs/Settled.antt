-- A tree whose frame was painted: what it has of flags and marks.
use Rattle.std.specs.Prelude.{◌≡◌, Bool, true, false, not, ◌&&◌, ◌||◌, if◌then◌else◌}
use Rattle.node_tree.specs.Forest.{Forest}
use Rattle.node_tree.specs.Forest.Forest.{none, tree}
use Rattle.node_tree.specs.Edits.{KeepsHandles}
use Rattle.node_tree.specs.Tree.{Tree, Is}
use Rattle.tree_marks.specs.Closed.{any_mark}
use Rattle.render_tree.specs.Object.{RenderObject}
use Rattle.render_tree.specs.Marks.{paint_marks}
use Rattle.kept_layers.specs.Group.{opens, goes_in}

-- what is below a painted node may have flags: it has the mark
abbrev pub is_entered : RenderObject → Bool
is_entered o = goes_in o && o.paint_below

-- a painted node has no flag any more, and its mark only where something below it is left with a flag or a mark: what isn't painted
abbrev pub settled_node : Forest RenderObject → RenderObject → RenderObject
settled_node inside o =
    if o.shown then record o { needs_paint = false; paint_below = o.paint_below && (not (opens o) || any_mark paint_marks inside) } else o

-- a forest in which the nodes in the window are painted
abbrev pub settled : Forest RenderObject → Forest RenderObject
settled none = none
settled (tree h o below rest) = tree h (settled_node (settled below) o) (if is_entered o then settled below else below) (settled rest)

-- and the whole tree, of which the first is painted
abbrev pub first_settled : Forest RenderObject → Forest RenderObject
first_settled none = none
first_settled (tree h o below rest) = tree h (settled_node (settled below) o) (if is_entered o then settled below else below) rest

-- no painted node has a flag
abbrev pub IsPaintedCalm : Forest RenderObject → Type 0
IsPaintedCalm none = Unit {0}
IsPaintedCalm (tree h o below rest) =
    (o.shown ≡ true → (o.needs_paint ≡ false) × (opens o ≡ true → IsPaintedCalm below)) × IsPaintedCalm rest

-- the root, if there is one, is in the window
abbrev pub IsRootShown : Forest RenderObject → Type 0
IsRootShown none = ⊥
IsRootShown (tree h o below rest) = o.shown ≡ true

-- the flags and marks of what was painted are taken away, and nothing else has changed
pub record Settles (old new : Tree RenderObject) : Type 0 where
  pub plain : (f : Forest RenderObject) → Is old f → Is new (first_settled f)
  pub root : new.root ≡ old.root
  pub inactive : new.inactive ≡ old.inactive
  pub handles : KeepsHandles old.nodes new.nodes
