-- The lazy lists that are laid out, and their live ranges.
use Rattle.std.specs.Prelude.{◌≡◌, ℕ, ◌==◌, ◌||◌, Bool, false, if◌then◌else◌, Option, Some, None, option_map, is_some, List, [], ◌∷◌, ◌++◌}
use Rattle.fx_handles.specs.declared.Handle.{Handle}
use Rattle.fx_handles.specs.Handle.{same}
use Rattle.node_tree.specs.Children.{MapsValues}
use Rattle.node_tree.specs.Edits.{KeepsHandles}
use Rattle.node_tree.specs.Forest.{TreeNode, Forest}
use Rattle.node_tree.specs.Forest.Forest.{none, tree}
use Rattle.node_tree.specs.Tree.{Tree, node_at}
use Rattle.sliver_layout.specs.declared.protocol.SliverBounds.{SliverBounds}
use Rattle.sliver_layout.specs.declared.protocol.Window.{Window}
use Rattle.sliver_layout.specs.Lists.{nothing}
use Rattle.layout_form.specs.Live.{live_in}
use Rattle.render_tree.specs.Edits.{with_live}
use Rattle.render_tree.specs.Object.{RenderObject, object_look, sliver_in}
use Rattle.render_tree.specs.Plain.{lazy_children}
use Rattle.layout_walk.specs.Rules.{lazy_extent}

-- the live range of a list of so many children of one extent that was laid out in a view; children without extent have none
abbrev pub range_in : Option SliverBounds → ℕ → ℕ → ℕ → Window
range_in view extent count widen = if extent == 0 then nothing else live_in view extent count widen

-- that of a node, by its last layout; only a lazy list has one
abbrev pub range_of : ℕ → RenderObject → Option Window
range_of widen o = option_map (λ extent. range_in (sliver_in o.frame) extent (lazy_children o) widen) (lazy_extent (object_look o))

-- whether a node is a lazy list
abbrev pub lists_items : RenderObject → Bool
lists_items o = is_some (lazy_extent (object_look o))

-- the lazy lists in the window, in tree order; those among the items of a list aren't counted
abbrev pub lists_in_window : Forest RenderObject → List Handle
lists_in_window none = []
lists_in_window (tree h o below rest) =
    (if o.shown then (if lists_items o then h ∷ [] else lists_in_window below) else []) ++ lists_in_window rest

-- a handle stands in a list
abbrev pub is_among : Handle → List Handle → Bool
is_among k [] = false
is_among k (h ∷ hs) = same k h || is_among k hs

-- a node with its live range, where it has one
abbrev pub or_live : Option Window → RenderObject → RenderObject
or_live None o = o
or_live (Some range) o = with_live (Some range) o

abbrev pub ranged_one : ℕ → RenderObject → RenderObject
ranged_one widen o = or_live (range_of widen o) o

-- so it is of these nodes, and every other one is as before
abbrev pub ranged : ℕ → List Handle → Handle → RenderObject → RenderObject
ranged widen hs k o = if is_among k hs then ranged_one widen o else o

-- a node without its live range
abbrev pub without_live : TreeNode RenderObject → TreeNode RenderObject
without_live n = record n { value = with_live None n.value }

-- nothing but live ranges is changed
pub record KeepsButRanges (old new : Tree RenderObject) : Type 0 where
  pub nodes : (k : Handle) → option_map without_live (node_at new k) ≡ option_map without_live (node_at old k)
  pub root : new.root ≡ old.root
  pub inactive : new.inactive ≡ old.inactive
  pub handles : KeepsHandles old.nodes new.nodes

-- values are changed, and nothing else
pub record OnlyValues (g : Handle → RenderObject → RenderObject) (old new : Tree RenderObject) : Type 0 where
  pub values : MapsValues g old new
  pub root : new.root ≡ old.root
  pub inactive : new.inactive ≡ old.inactive
  pub handles : KeepsHandles old.nodes new.nodes
