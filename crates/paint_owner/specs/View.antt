-- A part of the code as a plain one: one level, since a part's list is seen as its plain parts already.
use Rattle.kept_layers.specs.GroupPart.{GroupPart, record_part, layer_part, place_part, parts_of}
use Rattle.paint_owner.specs.declared.parts.PaintPart.{PaintPart}
use Rattle.paint_owner.specs.declared.parts.PaintPart.TheVariants as part

abbrev pub part_of : PaintPart → GroupPart
part_of (part.Record r) = record_part r
part_of (part.Layer l) = layer_part l.kind (parts_of l.parts)
part_of (part.Place h at) = place_part h at
