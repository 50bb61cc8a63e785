-- Where what is below a node begins, as painting programs need it.
use Rattle.fx_geom.specs.declared.shapes.Offset.{Offset}
use Rattle.screen_form.specs.declared.paint_role.PaintRole.{PaintRole}
use Rattle.screen_form.specs.declared.paint_role.PaintRole.TheVariants.{Hides, Passes, Layers}
use Rattle.screen_form.specs.Painted.{point_in}

-- the point from which what is below a node is painted
abbrev pub point_below : PaintRole → Offset → Offset
point_below Hides p = p
point_below Passes p = p
point_below (Layers kind) p = point_in kind p
