-- Boxes with at most one child below them.
use Rattle.std.specs.Prelude.{Bool, true, false}
use Rattle.widget_model.specs.Look.{Look, text, row, column, wrap, table, stack, flexible, positioned, viewport, sliver_to_box, sliver_padding, sliver_fixed, sliver_lazy, keep, inherit, component}

-- whether the rule of a kind knows one child at most
abbrev pub is_single : Look → Bool
is_single (text words color) = false
is_single (row main cross size) = false
is_single (column main cross size) = false
is_single (wrap spacing run_spacing) = false
is_single (table widths) = false
is_single (stack ax ay fit) = false
is_single (flexible flex fit) = false
is_single (positioned left top right bottom width height) = false
is_single (viewport axis) = false
is_single sliver_to_box = false
is_single (sliver_padding left top right bottom) = false
is_single (sliver_fixed extent) = false
is_single (sliver_lazy extent) = false
is_single (keep kept) = false
is_single (inherit name value) = false
is_single (component place props declaration) = false
is_single look = true
