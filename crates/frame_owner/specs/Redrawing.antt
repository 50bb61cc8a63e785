-- What it is that render nodes take other widgets, and their children another order.
use Rattle.std.specs.Prelude.{◌≡◌, ℕ, ◌<◌, false, if◌then◌else◌, List, [], ◌∷◌, map, length, Option, Some, None, IfSome, option_map}
use Rattle.std.specs.List.{All}
use Rattle.fx_handles.specs.declared.Handle.{Handle}
use Rattle.fx_handles.specs.Handle.{same, AreDistinct}
use Rattle.node_tree.specs.Children.{MapsValues}
use Rattle.node_tree.specs.Edits.{KeepsHandles, CanReorder, ReordersAll}
use Rattle.node_tree.specs.Forest.{Forest, map_values, reordered}
use Rattle.node_tree.specs.Plan.{PlanEntry}
use Rattle.node_tree.specs.Tree.{Tree, parent_at, children_at}
use Rattle.widget_model.specs.Plain.{PlainWidget}
use Rattle.widget_model.specs.Update.{IsSameType}
use Rattle.plain_tree.specs.declared.render.ParentData.{ParentData}
use Rattle.plain_tree.specs.Render.{Render, no_renders, more_renders}
use Rattle.render_tree.specs.Edits.{no_parent_data}
use Rattle.render_tree.specs.Object.{RenderObject}
use Rattle.render_tree.specs.Plain.{renders_of, root_tree}
use Rattle.render_tree.specs.Redraw.{Redraw}
use Rattle.render_tree.specs.Tree.{object_at}
use Rattle.kept_phases.specs.Redraws.{Redraws, KeepsKinds}
use Rattle.screen_owner.specs.Steps.{Brings}
use Rattle.renewed_builds.specs.Renewing.{Change}
use Rattle.renewed_builds.specs.Taking.{handles_at}

-- the widget at a handle after changes: that of the first change which is for it
abbrev pub widget_after : List Change → Handle → PlainWidget → PlainWidget
widget_after [] h w = w
widget_after (c ∷ cs) h w = if same h c.at then c.widget else widget_after cs h w

-- a render node after them: all else stays as it is
abbrev pub changed : List Change → Handle → RenderObject → RenderObject
changed cs h o = record o { widget = widget_after cs h o.widget }

-- the old places of the children of the node at a handle, in their new order, where the first change that is for it gives one
abbrev pub places_after : List Change → Handle → Option (List ℕ)
places_after [] h = None
places_after (c ∷ cs) h = if same h c.at then c.order else places_after cs h

-- and these children themselves
abbrev pub orders_after : Tree RenderObject → List Change → Handle → Option (List Handle)
orders_after t cs h = option_map (handles_at (children_at t h)) (places_after cs h)

-- a forest of render nodes after changes
abbrev pub forest_after : Tree RenderObject → List Change → Forest RenderObject → Forest RenderObject
forest_after t cs f = reordered (orders_after t cs) (map_values (changed cs) f)

-- the children of the node of a change may stand in its order, if it has one
abbrev pub CanOrder : Tree RenderObject → Change → Type 0
CanOrder t c = IfSome c.order (λ places. All (λ i. i < length (children_at t c.at)) places × CanReorder t c.at (handles_at (children_at t c.at) places))

-- each change is for a node that is there, has a widget of the same type, and children that may stand in its order; and no node has two of
-- them
pub record CanRedraw (t : Tree RenderObject) (cs : List Change) : Type 0 where
  pub each : All (λ c. (o : RenderObject) × (object_at t c.at ≡ Some o) × IsSameType o.widget c.widget) cs
  pub orders : All (CanOrder t) cs
  pub once : AreDistinct (map (λ c. c.at) cs)

-- a node without its marks
abbrev pub unmarked : RenderObject → RenderObject
unmarked o = record o { needs_layout = false; layout_below = false; needs_paint = false; paint_below = false }

-- ---- steps

-- children in an order, if one is given
abbrev pub order_at : List Handle → Option (List ℕ) → List Handle
order_at hs None = hs
order_at hs (Some places) = handles_at hs places

-- what a render node was told; nothing where there is none
abbrev pub data_in : Option RenderObject → ParentData
data_in None = no_parent_data
data_in (Some o) = o.parent_data

-- what a plan says of the node of a change: it stays in its place, its widget is another, and its children stand in its order
abbrev pub entry_for : Tree RenderObject → Change → PlanEntry Redraw
entry_for t c =
    record {
      at = c.at;
      parent = parent_at t c.at;
      children = order_at (children_at t c.at) c.order;
      update = record { widget = c.widget; parent_data = data_in (object_at t c.at) };
    }

-- the nodes have these widgets, and nothing else is changed, nor marked
pub record HasTaken (cs : List Change) (old new : Tree RenderObject) : Type 0 where
  pub nodes : MapsValues (changed cs) old new
  pub handles : KeepsHandles old.nodes new.nodes
  pub root : new.root ≡ old.root
  pub inactive : new.inactive ≡ old.inactive

-- their children stand in these orders, and nothing else is changed, nor marked
pub record HasOrdered (cs : List Change) (old new : Tree RenderObject) : Type 0 where
  pub orders : ReordersAll old.nodes new.nodes (orders_after old cs)
  pub root : new.root ≡ old.root
  pub inactive : new.inactive ≡ old.inactive

-- ---- the whole

-- the nodes take these widgets, and their children these orders: it is a step of a build, in which each node stays below the one that it
-- was below, and but for its widget, and for the marks that this sets, as it is
pub record TakesWidgets (cs : List Change) (old new : Tree RenderObject) : Type 0 where
  pub redraws : Redraws old new
  pub kinds : KeepsKinds old redraws.committed
  pub objects : (h : Handle) → option_map unmarked (object_at new h) ≡ option_map (λ o. unmarked (changed cs h o)) (object_at old h)
  pub renders : renders_of (root_tree new) ≡ renders_of (forest_after old cs (root_tree old))
  pub brings : (top : Render) → renders_of (forest_after old cs (root_tree old)) ≡ more_renders top no_renders → Brings old new top
  pub handles : KeepsHandles old.nodes new.nodes
  pub root : new.root ≡ old.root
