-- Areas of the view, and the middles of cells.
use Rattle.std.specs.Prelude.{ℕ, ◌+◌, ◌*◌, ◌/◌, pos, ◌+ℤ◌, Bool, true, ◌&&◌, int_le, int_lt, Option, Some, None}
use Rattle.std.specs.Int.{int_min, int_max}
use Rattle.fx_geom.specs.declared.shapes.Rect.{Rect}
use Rattle.fx_geom.specs.declared.shapes.Size.{Size}
use Rattle.cell_raster.specs.declared.area.Area.{Area}
use Rattle.cell_raster.specs.declared.area.CellMiddle.{CellMiddle}

-- the middle of the cell in a column and a row: its corner and half the cell. Half a u is left away, which no edge of an
-- area can tell, since all edges are whole
abbrev pub middle_of : Size → ℕ → ℕ → CellMiddle
middle_of cell column row = record { x = column * cell.w + cell.w / 2; y = row * cell.h + cell.h / 2 }

-- the area of a rectangle
abbrev pub area_of : Rect → Area
area_of r =
    record { left = r.at.x; top = r.at.y; right = r.at.x +ℤ pos r.size.w; bottom = r.at.y +ℤ pos r.size.h }

-- what two areas have in common (Rect.intersect)
abbrev pub common : Area → Area → Area
common a b =
    record {
      left = int_max a.left b.left;
      top = int_max a.top b.top;
      right = int_min a.right b.right;
      bottom = int_min a.bottom b.bottom;
    }

-- a middle lies in an area: the left and the top edge are in it, the right and the bottom one aren't
abbrev pub holds : Area → CellMiddle → Bool
holds a m =
    ((int_le a.left (pos m.x) && int_lt (pos m.x) a.right) && int_le a.top (pos m.y)) && int_lt (pos m.y) a.bottom

-- a clip within the clip around it, where there is one
abbrev pub clipped_to : Option Area → Area → Area
clipped_to None area = area
clipped_to (Some outer) area = common outer area

abbrev pub is_in_clip : Option Area → CellMiddle → Bool
is_in_clip None m = true
is_in_clip (Some area) m = holds area m
