use Rattle.std.proofs.Common.{refl}
use Rattle.render_tree.specs.Edits.{with_scrolled}
use Rattle.render_tree.proofs.Quiet.{known_set}
use Rattle.render_tree.proofs.RenderTree.set_scrolled.Goals as goal

pub invariant_of-self : goal.invariant_of-self
invariant_of-self c = known_set c.self.inside.users c.self.inside.remarked c.self.inside.tree c.write_scrolled.new.tree c.args.h (with_scrolled c.args.v) c.self.invariant c.write_scrolled.ensures (λ o. refl) (λ o. refl)
