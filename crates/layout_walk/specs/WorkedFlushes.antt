-- Flushes of small trees, worked by hand.
use Rattle.std.specs.Prelude.{◌≡◌, ℕ, true, false, Option, Some, None, List, [], ◌∷◌}
use Rattle.fx_geom.specs.declared.shapes.Axis.TheVariants.{Vertical}
use Rattle.fx_geom.specs.Bounds.{tight}
use Rattle.fx_geom.specs.Offset.{origin}
use Rattle.fx_handles.specs.declared.Handle.{Handle}
use Rattle.node_tree.specs.Forest.{Forest, below, skip}
use Rattle.node_tree.specs.Forest.Forest.{none, tree}
use Rattle.widget_model.specs.Look.{Look, sized_box, padding, viewport, sliver_to_box, sliver_lazy}
use Rattle.layout_form.specs.declared.asks.Ask.{Ask}
use Rattle.layout_form.specs.declared.asks.Ask.TheVariants.{AsBox}
use Rattle.layout_form.specs.Object.{no_notes}
use Rattle.layout_form.specs.Worked.{standard, told, view}
use Rattle.layout_walk.specs.Node.{LayoutNode}
use Rattle.layout_walk.specs.Full.{laid_trees, shown_trees}
use Rattle.layout_walk.specs.Work.{due_count}
use Rattle.layout_walk.specs.Rules.{parts_of}
use Rattle.layout_walk.specs.Flush.{flushed, ticks}

-- a node that was never laid out, with this index, number of child widgets, and offset
abbrev pub new_node : ℕ → Look → ℕ → ℕ → ℕ → LayoutNode
new_node number look index count scroll = record {
  number = number;
  look = look;
  told = told 0 false None index;
  count = count;
  scroll = scroll;
  frame = None;
  notes = no_notes;
  plugged = false;
  scrolled = 0;
  offset = None;
  shown = false;
  needs_layout = true;
  layout_below = true;
}

abbrev pub handle : ℕ → Handle
handle n = record { index = n; generation = 0 }

-- a node above others, before others
abbrev pub over : ℕ → Look → Forest LayoutNode → Forest LayoutNode → Forest LayoutNode
over n look kids rest = tree (handle n) (new_node n look 0 0 0) kids rest

-- the root stands in the window, at the start
abbrev pub rooted : Forest LayoutNode → Forest LayoutNode
rooted none = none
rooted (tree h v kids rest) = tree h (record v { shown = true; offset = Some origin }) kids rest

abbrev pub whole_view : List (Option Ask)
whole_view = Some (AsBox (tight (view 100 100))) ∷ []

-- a flush of a tree in a view of 100 by 100, and an outer one
abbrev pub flush : Forest LayoutNode → Forest LayoutNode
flush f = flushed (parts_of standard) false whole_view f

abbrev pub flush_outer : Forest LayoutNode → Forest LayoutNode
flush_outer f = flushed (parts_of standard) true whole_view f

abbrev pub flush_ticks : Forest LayoutNode → ℕ
flush_ticks f = ticks (parts_of standard) false whole_view f

abbrev pub outer_ticks : Forest LayoutNode → ℕ
outer_ticks f = ticks (parts_of standard) true whole_view f

-- ---- the trees

-- a box around a box
abbrev pub around_box : Forest LayoutNode
around_box = rooted (over 1 (padding 1 2 3 4) (over 2 (sized_box (Some 10) (Some 20)) none none) none)

-- a lazy list of four child widgets, of which items 1 and 2 are there, after a box, in a Viewport that stands scrolled so far
abbrev pub lazy_in_view : ℕ → Forest LayoutNode
lazy_in_view scroll =
    rooted (tree (handle 1) (new_node 1 (viewport Vertical) 0 0 scroll)
    (over 2 sliver_to_box (over 3 (sized_box (Some 100) (Some 50)) none none)
    (tree (handle 4) (new_node 4 (sliver_lazy 40) 0 4 0)
    (tree (handle 5) (new_node 5 (sized_box None None) 1 0 0) none
    (tree (handle 6) (new_node 6 (sized_box None None) 2 0 0) none none))
    none))
    none)

-- the Viewport is scrolled there, and marked
abbrev pub scroll_to : ℕ → Forest LayoutNode → Forest LayoutNode
scroll_to scroll none = none
scroll_to scroll (tree h v kids rest) = tree h (record v { scroll = scroll; needs_layout = true }) kids rest

pub record WorksOfFlushes : Type 0 where
  pub once : flush_ticks around_box ≡ 2
  pub again : flush_ticks (flush around_box) ≡ 0
  pub same : flush (flush around_box) ≡ flush around_box
  pub full : shown_trees (flush around_box) ≡ laid_trees (parts_of standard) whole_view (origin ∷ []) around_box
  pub lazy : flush_ticks (lazy_in_view 0) ≡ 5
  pub lazy_outer : outer_ticks (lazy_in_view 0) ≡ 4
  pub second : flush_ticks (flush_outer (lazy_in_view 0)) ≡ 2
  -- in an outer flush nothing is laid out twice
  pub outer_again : outer_ticks (flush_outer (lazy_in_view 0)) ≡ 0
  -- the items stay as they are, and the list has to be laid out again
  pub items : below (skip 1 (below (flush_outer (scroll_to 70 (flush (lazy_in_view 0)))))) ≡ below (skip 1 (below (flush (lazy_in_view 0))))
  pub due : due_count (flush_outer (scroll_to 70 (flush (lazy_in_view 0)))) ≡ 3
  pub both : flush (flush_outer (lazy_in_view 0)) ≡ flush (lazy_in_view 0)
  pub scrolled : flush (flush_outer (scroll_to 70 (flush (lazy_in_view 0)))) ≡ flush (scroll_to 70 (flush (lazy_in_view 0)))
  pub far : flush (flush_outer (scroll_to 500 (flush (lazy_in_view 0)))) ≡ flush (scroll_to 500 (flush (lazy_in_view 0)))
