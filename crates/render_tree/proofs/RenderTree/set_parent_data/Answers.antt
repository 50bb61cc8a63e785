use Rattle.std.proofs.Common.{refl}
use Rattle.render_tree.specs.Edits.{with_parent_data}
use Rattle.render_tree.proofs.Quiet.{known_set}
use Rattle.render_tree.proofs.RenderTree.set_parent_data.Goals as goal

pub invariant_of-self : goal.invariant_of-self
invariant_of-self c = known_set c.self.inside.users c.self.inside.remarked c.self.inside.tree c.write_parent_data.new.tree c.args.h (with_parent_data c.args.d) c.self.invariant c.write_parent_data.ensures (λ o. refl) (λ o. refl)
