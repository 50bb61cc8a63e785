use Rattle.std.proofs.Common.{refl}
use Rattle.render_tree.specs.Marks.{layout_marks}
use Rattle.render_tree.proofs.Quiet.{known_live}
use Rattle.render_tree.proofs.RenderTree.mark_layout.Goals as goal

pub invariant_of-self : goal.invariant_of-self
invariant_of-self c = known_live layout_marks (λ f b o. refl) (λ f b o. refl) c.args.h c.self.inside.users c.self.inside.remarked c.self.inside.tree c.mark_live.new.tree c.self.invariant c.mark_live.ensures.live c.mark_live.ensures.absent
