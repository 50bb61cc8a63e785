-- A small tree whose frame was painted, worked by hand.
use Rattle.std.specs.Prelude.{◌≡◌, ℤ, pos, true, false}
use Rattle.node_tree.specs.Forest.Forest.{none, tree}
use Rattle.widget_model.specs.Look.{Look, colored_box, opacity, offstage, repaint_boundary}
use Rattle.render_tree.specs.Object.{RenderObject}
use Rattle.kept_layers.specs.Worked.{handle, object, leaf, scene}
use Rattle.paint_owner.specs.Settled.{settled}
use Rattle.paint_owner.specs.Whole.{whole_count}

-- a node without flag and mark
abbrev pub still : Look → ℤ → ℤ → RenderObject
still look x y = record (object look x y false) { paint_below = false }

pub record Works : Type 0 where
  -- the flagged boundary (4) loses its flag, and it and what is below it the mark, as do the leaf (2) and the Opacity (3): nothing is
  -- left below them. The Offstage (6) keeps its mark, since nobody looked below it, and so does the boundary (1) above both
  pub marks : settled scene
      ≡ tree (handle 1) (object repaint_boundary (pos 3) (pos 0) false)
      (tree (handle 2) (still (colored_box 7) (pos 1) (pos 2)) none
      (tree (handle 3) (still (opacity 128) (pos 5) (pos 0))
      (tree (handle 4) (still repaint_boundary (pos 2) (pos 2)) (tree (handle 5) (still (colored_box 9) (pos 0) (pos 1)) none none) none)
      (tree (handle 6) (object (offstage true) (pos 0) (pos 0) false) (leaf 7 (pos 0) (pos 0) 8 none) none)))
      none
  -- all but the hidden leaf are painted where all is
  pub count : whole_count scene ≡ 6
