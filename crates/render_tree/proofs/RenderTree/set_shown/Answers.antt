use Rattle.std.proofs.Common.{refl}
use Rattle.render_tree.specs.Edits.{with_shown}
use Rattle.render_tree.proofs.Quiet.{known_set}
use Rattle.render_tree.proofs.RenderTree.set_shown.Goals as goal

pub invariant_of-self : goal.invariant_of-self
invariant_of-self c = known_set c.self.inside.users c.self.inside.remarked c.self.inside.tree c.write_shown.new.tree c.args.h (with_shown c.args.on) c.self.invariant c.write_shown.ensures (λ o. refl) (λ o. refl)
