-- Whose the handlers in a tree are: each belongs to a node above it, and its sets fit that node's fields.
use Rattle.std.specs.Prelude.{◌≡◌, ◌⊎◌, Some, List, ◌∷◌, map}
use Rattle.fx_expr.specs.declared.handlers.Handler.{Handler}
use Rattle.fx_expr.specs.Value.{type_of}
use Rattle.widget_model.specs.Look.{Look, sized_box, constrained_box, padding, align, colored_box, text, row, column, wrap, table, stack, flexible, positioned, opacity, clip_rect, repaint_boundary, merge_semantics, intrinsic_width, intrinsic_height, offstage, ignore_pointer, absorb_pointer, detector, semantics, exclude_semantics, custom_paint, custom_layout, viewport, sliver_to_box, sliver_padding, sliver_fixed, sliver_lazy, keep, inherit, component}
use Rattle.template_build.specs.HandlersIn.{HandlersMeet, Owner, IsOwned}
use Rattle.plain_tree.specs.PlainNode.{PlainNode, node, PlainNodes, no_nodes, more_nodes}

-- each handler in the widgets of a tree belongs to a node above it, or to one of these, and fits its fields. The handlers
-- that the root widget has itself belong to no node: a list that is begun with (0, []) says so.
abbrev mutual
  pub AreOwned : List Owner → PlainNode → Type 0
  AreOwned owners (node number widget fields scroll index children) =
      HandlersMeet (IsOwned owners) widget × AllAreOwned ((number, map type_of fields) ∷ owners) children

  pub AllAreOwned : List Owner → PlainNodes → Type 0
  AllAreOwned owners no_nodes = Unit {0}
  AllAreOwned owners (more_nodes n ns) = AreOwned owners n × AllAreOwned owners ns

-- a handler is one of the callbacks of a Detector (`GestureDetector.onTap`, `onLongPress`, `onVerticalDragUpdate`,
-- `onHorizontalDragUpdate`, `onPanUpdate`); no other kind has any
abbrev pub HasHandler : Handler → Look → Type 0
HasHandler h (sized_box width height) = ⊥
HasHandler h (constrained_box min_width max_width min_height max_height) = ⊥
HasHandler h (padding left top right bottom) = ⊥
HasHandler h (align ax ay) = ⊥
HasHandler h (colored_box color) = ⊥
HasHandler h (text words color) = ⊥
HasHandler h (row main cross size) = ⊥
HasHandler h (column main cross size) = ⊥
HasHandler h (wrap spacing run_spacing) = ⊥
HasHandler h (table widths) = ⊥
HasHandler h (stack ax ay fit) = ⊥
HasHandler h (flexible flex fit) = ⊥
HasHandler h (positioned left top right bottom width height) = ⊥
HasHandler h (opacity alpha) = ⊥
HasHandler h clip_rect = ⊥
HasHandler h repaint_boundary = ⊥
HasHandler h merge_semantics = ⊥
HasHandler h intrinsic_width = ⊥
HasHandler h intrinsic_height = ⊥
HasHandler h (offstage hidden) = ⊥
HasHandler h (ignore_pointer ignoring) = ⊥
HasHandler h (absorb_pointer absorbing) = ⊥
HasHandler h (detector behavior tap long vertical horizontal pan) =
    (tap ≡ Some h) ⊎ ((long ≡ Some h) ⊎ ((vertical ≡ Some h) ⊎ ((horizontal ≡ Some h) ⊎ (pan ≡ Some h))))
HasHandler h (semantics label button container) = ⊥
HasHandler h (exclude_semantics excluding) = ⊥
HasHandler h (custom_paint delegate) = ⊥
HasHandler h (custom_layout delegate) = ⊥
HasHandler h (viewport axis) = ⊥
HasHandler h sliver_to_box = ⊥
HasHandler h (sliver_padding left top right bottom) = ⊥
HasHandler h (sliver_fixed extent) = ⊥
HasHandler h (sliver_lazy extent) = ⊥
HasHandler h (keep kept) = ⊥
HasHandler h (inherit name value) = ⊥
HasHandler h (component place props declaration) = ⊥
