-- The lazy lists of a plan, and the ranges that their render nodes store.
use Rattle.std.specs.Prelude.{◌≡◌, ◌≤◌, Bool, Option, Some, None, List, map, filter, length, option_and_then}
use Rattle.std.specs.List.{All}
use Rattle.fx_handles.specs.declared.Handle.{Handle}
use Rattle.node_tree.specs.Plan.{PlanEntry}
use Rattle.node_tree.specs.Tree.{Tree}
use Rattle.sliver_layout.specs.Lists.{nothing}
use Rattle.sliver_layout.specs.declared.protocol.Window.{Window}
use Rattle.widget_model.specs.Look.{sliver_lazy}
use Rattle.plain_tree.specs.PlainNode.{PlainNode}
use Rattle.build_form.specs.FullBuild.{Screen, live_ranges}
use Rattle.render_tree.specs.Object.{RenderObject, object_look}
use Rattle.render_tree.specs.Plain.{lazy_children}
use Rattle.render_tree.specs.Readings.{live_of}
use Rattle.render_tree.specs.Tree.{object_at}
use Rattle.build_walk.specs.Serving.{WaitingList}

-- the nodes of the lists in a plan, from first to last
abbrev pub listed_in : {U : Type 0} → (U → Bool) → List (PlanEntry U) → List Handle
listed_in test es = map (λ e. e.at) (filter (λ e. test e.update) es)

abbrev pub stored_range : Option Window → Window
stored_range None = nothing
stored_range (Some w) = w

-- the range that a render node stores, an empty one where nothing is stored
abbrev pub range_at : Tree RenderObject → Handle → Window
range_at r h = stored_range (option_and_then live_of (object_at r h))

-- a render node is that of a lazy list that waits
pub record IsListAt (r : Tree RenderObject) (k : Handle) (w : WaitingList) : Type 0 where
  pub object : RenderObject
  pub stored : object_at r k ≡ Some object
  pub number : object.number ≡ w.number
  pub look : object_look object ≡ sliver_lazy w.extent
  pub many : lazy_children object ≡ length w.widgets
  pub extent : 1 ≤ w.extent

-- the render nodes of lists that wait store the live ranges that a layout of this tree on a screen gives them
abbrev pub AreRangedFor : Screen → PlainNode → List WaitingList → Tree RenderObject → Type 0
AreRangedFor screen tree ws r = All (λ w. (k : Handle) → IsListAt r k w → range_at r k ≡ live_ranges screen tree w.number w.extent (length w.widgets)) ws
