-- What a change of one node leaves alone.
use Rattle.std.specs.Prelude.{◌≡◌}
use Rattle.render_tree.specs.Object.{RenderObject}

-- a node has its flag and its mark for painting as it had them
pub record SamePaintMarks (old new : RenderObject) : Type 0 where
  pub flag : new.needs_paint ≡ old.needs_paint
  pub mark : new.paint_below ≡ old.paint_below
