use Rattle.std.proofs.Common.{◌≡◌, refl, Option, Some, None}
use Rattle.fx_geom.specs.declared.shapes.Offset.{Offset}
use Rattle.render_tree.specs.LayoutState.{with_standing}
use Rattle.render_tree.specs.Object.{RenderObject}
use Rattle.render_tree.proofs.Quiet.{known_set}
use Rattle.render_tree.proofs.RenderTree.set_standing.Goals as goal

same_widget : (at : Option Offset) (o : RenderObject) → (with_standing at o).widget ≡ o.widget
same_widget None o = refl
same_widget (Some at) o = refl

same_notes : (at : Option Offset) (o : RenderObject) → (with_standing at o).notes ≡ o.notes
same_notes None o = refl
same_notes (Some at) o = refl

pub invariant_of-self : goal.invariant_of-self
invariant_of-self c =
    known_set c.self.inside.users c.self.inside.remarked c.self.inside.tree c.write_standing.new.tree c.args.h (with_standing c.args.at) c.self.invariant c.write_standing.ensures
    (same_widget c.args.at) (same_notes c.args.at)
