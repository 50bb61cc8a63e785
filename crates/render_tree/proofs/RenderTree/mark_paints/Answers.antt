use Rattle.std.proofs.Common.{refl}
use Rattle.render_tree.specs.Marks.{paint_marks}
use Rattle.render_tree.proofs.Quiet.{known_marked}
use Rattle.render_tree.proofs.RenderTree.mark_paints.Goals as goal

pub invariant_of-self : goal.invariant_of-self
invariant_of-self c = known_marked paint_marks (λ f b o. refl) (λ f b o. refl) c.self.inside.users c.self.inside.remarked c.self.inside.tree c.mark_each.new.tree c.self.invariant c.mark_each.ensures.only c.mark_each.ensures.absent
