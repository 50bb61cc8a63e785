-- A line that touches something between two frames.
use Rattle.std.specs.Prelude.{◌≡◌, [], ◌∷◌, ◌++◌}
use Rattle.node_tree.specs.Tree.{Tree}
use Rattle.layout_owner.specs.Roots.{top_render}
use Rattle.render_tree.specs.Object.{RenderObject}
use Rattle.render_tree.specs.Plain.{renders_of, root_tree}
use Rattle.session_form.specs.State.{Touched}
use Rattle.work_sets.specs.Before.{Before}

-- what a frame is compared with once a line has touched this, which left the render tree so
pub record Touches (touched : Touched) (before after : Before) (new : Tree RenderObject) : Type 0 where
  pub tree : after.tree ≡ top_render (renders_of (root_tree new))
  pub frames : after.frames ≡ before.frames
  pub more : after.touched ≡ before.touched ++ touched ∷ []
