-- How many nodes each call is given, and what is known of the children so far.
use Rattle.std.proofs.Common.{◌≡◌, ◌++◌, ◌+◌, ◌*◌, List, map, drop}
use Rattle.delegates.specs.Table.{Plug}
use Rattle.plain_tree.specs.Render.{count_of}
use Rattle.layout_form.specs.Object.{setting_of}
use Rattle.layout_form.specs.Layout.{object}
use Rattle.layout_form.specs.Intrinsic.{child_extents, wrapped_child, cell_heights}
use Rattle.kind_rules.specs.Cursor.{children_of}
use Rattle.kind_rules.proofs.intrinsic.+greatest.Given as goal

abbrev pub decreases-greatest : goal.decreases-greatest
decreases-greatest g l = 4 * count_of (g.C.Cursor.stands l.cursor) + 3

abbrev pub decreases-kind_greatest : goal.decreases-kind_greatest
decreases-kind_greatest g l = 4 * count_of (g.C.Cursor.stands l.cursor) + 2

abbrev pub decreases-child_greatest : goal.decreases-child_greatest
decreases-child_greatest g l = 4 * count_of (g.C.Cursor.stands l.cursor)

abbrev pub decreases-child_extents : goal.decreases-child_extents
decreases-child_extents g l = 4 * count_of (g.C.Cursor.stands l.cursor)

abbrev pub decreases-flex_greatest : goal.decreases-flex_greatest
decreases-flex_greatest g l = 4 * count_of (g.C.Cursor.stands l.cursor) + 1

abbrev pub decreases-stack_greatest : goal.decreases-stack_greatest
decreases-stack_greatest g l = 4 * count_of (g.C.Cursor.stands l.cursor) + 1

abbrev pub decreases-wrap_greatest : goal.decreases-wrap_greatest
decreases-wrap_greatest g l = 4 * count_of (g.C.Cursor.stands l.cursor) + 1

abbrev pub decreases-wrapped_children : goal.decreases-wrapped_children
decreases-wrapped_children g l = 4 * count_of (g.C.Cursor.stands l.cursor)

abbrev pub decreases-table_greatest : goal.decreases-table_greatest
decreases-table_greatest g l = 4 * count_of (g.C.Cursor.stands l.cursor) + 1

abbrev pub decreases-cell_heights : goal.decreases-cell_heights
decreases-cell_heights g l = 4 * count_of (g.C.Cursor.stands l.cursor)

abbrev pub invariant-child_extents-loop-i : goal.invariant-child_extents-loop-i
invariant-child_extents-loop-i g l =
    (ds : List Plug) → l.extents.items ++ child_extents l.axis l.across (map (object (setting_of l.scale ds)) (drop l.i (children_of (g.C.Cursor.stands l.cursor))))
    ≡ child_extents l.axis l.across (map (object (setting_of l.scale ds)) (children_of (g.C.Cursor.stands l.cursor)))

abbrev pub invariant-wrapped_children-loop-i : goal.invariant-wrapped_children-loop-i
invariant-wrapped_children-loop-i g l =
    (ds : List Plug) → l.sizes.items ++ map (wrapped_child l.across) (map (object (setting_of l.scale ds)) (drop l.i (children_of (g.C.Cursor.stands l.cursor))))
    ≡ map (wrapped_child l.across) (map (object (setting_of l.scale ds)) (children_of (g.C.Cursor.stands l.cursor)))

abbrev pub invariant-cell_heights-loop-i : goal.invariant-cell_heights-loop-i
invariant-cell_heights-loop-i g l =
    (ds : List Plug) → l.heights.items ++ cell_heights l.columns l.i (map (object (setting_of l.scale ds)) (drop l.i (children_of (g.C.Cursor.stands l.cursor))))
    ≡ cell_heights l.columns 0 (map (object (setting_of l.scale ds)) (children_of (g.C.Cursor.stands l.cursor)))
