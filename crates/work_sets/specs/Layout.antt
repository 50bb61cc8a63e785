-- Which nodes a frame lays out at most: the layout region of its render tree.
use Rattle.std.specs.Prelude.{ℕ, ◌==◌, Bool, true, false, not, ◌&&◌, ◌||◌, Option, Some, None, List, [], ◌∷◌}
use Rattle.std.specs.Bool.{beq}
use Rattle.std.specs.Coded.{coded_option}
use base.Stored.{Coded}
use lib.Pointwise.{pointwise}
use Rattle.fx_geom.specs.declared.boxes.Bounds.{Bounds}
use Rattle.fx_geom.specs.contracts.words.Placed as placed
use Rattle.fx_geom.specs.declared.words.Placed.{Placed}
use Rattle.widget_model.specs.Look.{Look}
use Rattle.plain_tree.specs.declared.render.ParentData.{ParentData}
use Rattle.plain_tree.specs.Render.{Render, Renders, no_renders, more_renders}
use Rattle.work_sets.specs.Same.{is_same}
use Rattle.work_sets.specs.Members.{is_same_look}
use Rattle.work_roles.specs.ForLayout.{for_layout}
use Rattle.work_roles.specs.WorkRole.{is_sliver_lazy}
use Rattle.work_roles.specs.Place.{RegionPlace, is_relayout_boundary}
use Rattle.work_sets.specs.InTree.{number_of, look_of, told_of, widget_count_of, children_of, Standing, standing}
use Rattle.work_sets.specs.Before.{Before, bounds_in, is_touched}
use Rattle.work_sets.specs.Region.{Judge, region_of}

-- ---- firm boundaries

-- a box in the bounds of its last layout, at its place now and at the one that it had
abbrev pub is_firm_in : Option Bounds → Option Standing → RegionPlace → Look → Bool
is_firm_in None was p look = false
is_firm_in (Some bounds) None p look = false
is_firm_in (Some bounds) (Some was) p look =
    is_relayout_boundary was.place (look_of was.node) bounds && is_relayout_boundary p look bounds

-- a box that was laid out before, and is a relayout boundary both in the last frame's render tree and in the new one, by the
-- bounds of its last layout
abbrev pub is_firm : Before → RegionPlace → Render → Bool
is_firm before p r = is_firm_in (bounds_in (before.frames (number_of r))) (standing before.tree (number_of r)) p (look_of r)

-- ---- changed nodes

-- two nodes take the same from the widgets between them and their parent
abbrev pub coded_placed : Coded (Option Placed)
coded_placed = coded_option (placed.the_row).coded

abbrev pub is_told_same : ParentData → ParentData → Bool
is_told_same a b = a.flex == b.flex && (beq a.tight b.tight && (is_same coded_placed a.placed b.placed && a.index == b.index))

-- the list of a node's children, with what their parent takes from the widgets between them
abbrev pub list_below : Renders → List (ℕ × ParentData)
list_below no_renders = []
list_below (more_renders r rs) = (number_of r, told_of r) ∷ list_below rs

abbrev pub is_child_same : ℕ × ParentData → ℕ × ParentData → Bool
is_child_same a b = a.0 == b.0 && is_told_same a.1 b.1

-- two render nodes give a layout the same: their kinds with the members that it reads, the lists of their children, and how
-- many child widgets a SliverLazy has
abbrev pub is_same_for_layout : Render → Render → Bool
is_same_for_layout was now =
    is_same_look (for_layout (look_of was)) (for_layout (look_of now))
    && (pointwise is_child_same (list_below (children_of was)) (list_below (children_of now))
    && widget_count_of was == widget_count_of now)

-- a root that was none before, or has another view
abbrev pub is_changed_root : Before → RegionPlace → RegionPlace → Bool
is_changed_root before was now = now.top && not (was.top && before.same_view)

abbrev pub is_changed_since : Option Standing → Before → RegionPlace → Render → Bool
is_changed_since None before p r = true
is_changed_since (Some was) before p r =
    not (is_same_for_layout was.node r) || (is_touched before.touched r || is_changed_root before was.place p)

-- a node is changed for layout: it is new, or what a layout reads of it differs, or it was touched, or it is the root and
-- wasn't it in this view
abbrev pub is_changed : Before → RegionPlace → Render → Bool
is_changed before p r = is_changed_since (standing before.tree (number_of r)) before p r

-- ---- the region of a frame, and of the flags between two frames

abbrev pub frame_judge : Before → Judge
frame_judge before = record { is_firm = is_firm before; is_changed = is_changed before }

-- where the items of lazy lists aren't known, each of these counts as changed
abbrev pub first_judge : Before → Judge
first_judge before = record { is_firm = is_firm before; is_changed = λ p r. is_changed before p r || is_sliver_lazy (look_of r) }

-- between two frames only what was touched is a cause
abbrev pub idle_judge : Before → Judge
idle_judge before = record { is_firm = is_firm before; is_changed = λ p r. is_touched before.touched r }

-- of the render tree of a frame
abbrev pub layout_region : Before → Render → List ℕ
layout_region before root = region_of (frame_judge before) root

-- of the first phase's render tree, where the second phase had a fault
abbrev pub first_region : Before → Render → List ℕ
first_region before root = region_of (first_judge before) root

abbrev pub idle_region_of : Before → Option Render → List ℕ
idle_region_of before None = []
idle_region_of before (Some root) = region_of (idle_judge before) root

-- of the last frame's render tree: the nodes that may have a layout flag since then, of those that it laid out
abbrev pub idle_region : Before → List ℕ
idle_region before = idle_region_of before before.tree
