-- Boxes with nobody below them.
use Rattle.std.specs.Prelude.{Option, Some, None, if◌then◌else◌}
use Rattle.fx_geom.specs.declared.boxes.Bounds.{Bounds}
use Rattle.fx_geom.specs.declared.shapes.Size.{Size}
use Rattle.widget_model.specs.Look.{Look}
use Rattle.layout_form.specs.Object.{Setting}
use Rattle.layout_form.specs.Single.{around}
use Rattle.kind_rules.specs.Single.{is_single}

-- the size of a box of a kind with at most one child, where it has none
abbrev pub lone_size : Setting → Look → Bounds → Option Size
lone_size s look b = if is_single look then Some ((around s look b 0).size None) else None
