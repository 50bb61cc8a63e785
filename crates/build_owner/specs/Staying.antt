-- Old items stay below lazy lists between the two phases of a build.
use Rattle.std.specs.Prelude.{◌≡◌, ◌⊎◌, ℕ, Bool, if◌then◌else◌, Option, Some, None, List, map}
use Rattle.std.specs.Option.{option_to_list}
use Rattle.fx_handles.specs.declared.Handle.{Handle}
use Rattle.node_tree.specs.Forest.{Forest, tops, In, append, below, pruned, map_values}
use Rattle.node_tree.specs.Forest.Forest.{none, tree}
use Rattle.node_tree.specs.Part.{is_named}
use Rattle.node_tree.specs.Plan.{entries}
use Rattle.node_tree.specs.Tree.{Tree, IsNode, Is, subtree_at}
use Rattle.plain_tree.specs.declared.role.RenderRole.TheVariants.{Plain}
use Rattle.plain_tree.specs.PlainNode.{PlainNode, nodes_of as listed}
use Rattle.plain_tree.specs.Projection.{projected_all}
use Rattle.plain_tree.specs.Render.{renders_of as renders_listed}
use Rattle.element_tree.specs.Element.{Element}
use Rattle.render_tree.specs.Object.{RenderObject}
use Rattle.render_tree.specs.Plain.{renders_of}
use Rattle.render_tree.specs.Redraw.{Redraw}
use Rattle.render_tree.specs.Tree.{object_at}
use Rattle.build_walk.specs.Merging.{lists_items, lists_redraw, grow, list_handles}
use Rattle.build_walk.specs.Renewing.{AreDrawn}

-- whether a render node is that of a lazy list
abbrev pub lists_object : RenderObject → Bool
lists_object o = lists_items o.widget

module _ {T : Type 0} (lists : T → Bool) where
  -- a forest without what is below its lists
  abbrev pub bare : Forest T → Forest T
  bare none = none
  bare (tree h v kids rest) = tree h v (if lists v then none else bare kids) (bare rest)

-- what a node has already
abbrev pub redraw_now : RenderObject → Redraw
redraw_now o = record { widget = o.widget; parent_data = o.parent_data }

-- what is left of some nodes: each with what it has already; but handles that are named are taken out, with all below them
abbrev pub left_of : (Handle → Bool) → Forest RenderObject → Forest Redraw
left_of named f = map_values (λ k o. redraw_now o) (pruned named f)

-- what is left below a node
abbrev pub left_items : Tree RenderObject → (Handle → Bool) → Handle → Forest Redraw
left_items t named h = left_of named (below (subtree_at t h))

-- a plan for render nodes, with what is left below each of its lazy lists
abbrev pub with_items : Tree RenderObject → Forest Redraw → Forest Redraw
with_items t d = (grow lists_redraw d (map (left_items t (is_named (entries None d))) (list_handles lists_redraw d))).forest

-- a node has the widget and the parent data that it had
pub record HadAlready (was : Tree RenderObject) (k : Handle) (v : RenderObject) : Type 0 where
  pub object : RenderObject
  pub stored : object_at was k ≡ Some object
  pub widget : v.widget ≡ object.widget
  pub parent_data : v.parent_data ≡ object.parent_data

-- render nodes stand for the tree of a first phase, but that its lazy lists still have the old items that it doesn't claim; and beside
-- them stand others, which have no place in it. There were some in the last frame, and then new ones were made
pub record RendersStandWithItems (old : Option PlainNode) (scrolled : ℕ → ℕ) (elements : Forest Element) (was made r : Tree RenderObject) : Type 0 where
  pub drawn : AreDrawn (object_at r) scrolled elements
  pub objects : Forest RenderObject
  pub others : Forest RenderObject
  pub is : Is r (append objects others)
  pub root : option_to_list r.root ≡ tops objects
  pub projected : renders_of (bare lists_object objects) ≡ renders_listed (projected_all Plain None (listed (option_to_list old)))
  -- each node of the root's tree is one of the first phase's tree, or was there in the last frame
  pub items : (k : Handle) → In k objects → In k (bare lists_object objects) ⊎ IsNode was k
  -- and what isn't of the first phase's tree has the widget and the parent data that it had
  pub rest : (k : Handle) (v : RenderObject) → object_at r k ≡ Some v → In k (bare lists_object objects) ⊎ HadAlready made k v
