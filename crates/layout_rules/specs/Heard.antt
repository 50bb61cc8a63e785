-- What the rule of a node reads of what its children were told: of a list whose children are all there no more than how many they
-- are, so nothing is listed for it.
use Rattle.std.specs.Prelude.{ℕ, if◌then◌else◌, Option, Some, None, is_some, List, [], map}
use Rattle.fx_handles.specs.declared.Handle.{Handle}
use Rattle.node_tree.specs.Tree.{Tree, children_at}
use Rattle.widget_model.specs.Look.{Look, sliver_to_box, sliver_fixed}
use Rattle.plain_tree.specs.declared.render.ParentData.{ParentData}
use Rattle.render_tree.specs.Object.{RenderObject, object_look}
use Rattle.render_tree.specs.Tree.{object_at}
use Rattle.layout_rules.specs.Reads.{told_at}

-- the extent of the children of a list whose children are all there
abbrev pub list_extent : Look → Option ℕ
list_extent (sliver_fixed extent) = Some extent
list_extent _ = None

-- the look of a node; a handle that isn't live counts as a SliverToBox
abbrev pub look_or : Option RenderObject → Look
look_or None = sliver_to_box
look_or (Some o) = object_look o

abbrev pub look_at : Tree RenderObject → Handle → Look
look_at t h = look_or (object_at t h)

-- what the children of a node were told
abbrev pub told_below : Tree RenderObject → Handle → List ParentData
told_below t h = map (told_at t) (children_at t h)

-- what is listed of it for the rule: of such a list nothing
abbrev pub heard_at : Tree RenderObject → Handle → List ParentData
heard_at t h = if is_some (list_extent (look_at t h)) then [] else told_below t h

-- what the children were told, where so much is listed of it
abbrev pub all_told : Tree RenderObject → Handle → List ParentData → List ParentData
all_told t h heard = if is_some (list_extent (look_at t h)) then told_below t h else heard
