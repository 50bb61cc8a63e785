use Rattle.std.proofs.Common.{refl}
use Rattle.render_tree.specs.Edits.{with_scroll}
use Rattle.render_tree.proofs.Quiet.{known_set}
use Rattle.render_tree.proofs.RenderTree.set_scroll.Goals as goal

pub invariant_of-self : goal.invariant_of-self
invariant_of-self c = known_set c.self.inside.users c.self.inside.remarked c.self.inside.tree c.write_scroll.new.tree c.args.h (with_scroll c.args.v) c.self.invariant c.write_scroll.ensures (λ o. refl) (λ o. refl)
