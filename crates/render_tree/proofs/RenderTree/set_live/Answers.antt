use Rattle.std.proofs.Common.{Some, refl}
use Rattle.render_tree.specs.Edits.{with_live}
use Rattle.render_tree.proofs.Quiet.{known_set}
use Rattle.render_tree.proofs.RenderTree.set_live.Goals as goal

pub invariant_of-self : goal.invariant_of-self
invariant_of-self c = known_set c.self.inside.users c.self.inside.remarked c.self.inside.tree c.write_live.new.tree c.args.h (with_live (Some c.args.w)) c.self.invariant c.write_live.ensures (λ o. refl) (λ o. refl)
