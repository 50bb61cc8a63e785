use Rattle.std.proofs.Common.{refl}
use Rattle.render_tree.specs.Edits.{laid_out_below}
use Rattle.render_tree.proofs.Quiet.{known_set}
use Rattle.render_tree.proofs.RenderTree.clear_layout_below.Goals as goal

pub invariant_of-self : goal.invariant_of-self
invariant_of-self c = known_set c.self.inside.users c.self.inside.remarked c.self.inside.tree c.lay_out_below.new.tree c.args.h (laid_out_below) c.self.invariant c.lay_out_below.ensures (λ o. refl) (λ o. refl)
