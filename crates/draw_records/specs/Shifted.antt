-- Records at another place.
use Rattle.fx_geom.specs.declared.shapes.Offset.{Offset}
use Rattle.fx_geom.specs.Offset.{offset_sum}
use Rattle.draw_records.specs.declared.record.Record.{Record}
use Rattle.draw_records.specs.declared.record.Record.TheVariants.{Fill, Run}

-- a record whose place is moved by an offset (Rect.shift)
abbrev pub shifted : Record → Offset → Record
shifted (Fill rect color) by = Fill (record { at = offset_sum rect.at by; size = rect.size }) color
shifted (Run at color text) by = Run (offset_sum at by) color text
