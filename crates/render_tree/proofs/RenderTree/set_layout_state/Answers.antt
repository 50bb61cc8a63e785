use Rattle.std.proofs.Common.{refl}
use Rattle.render_tree.specs.LayoutState.{with_layout_state}
use Rattle.render_tree.proofs.Quiet.{known_noted}
use Rattle.render_tree.proofs.RenderTree.set_layout_state.Goals as goal

pub invariant_of-self : goal.invariant_of-self
invariant_of-self c =
    known_noted c.self.inside.users c.self.inside.remarked c.is_noted.result c.either-self-inside.result c.self.inside.tree c.write_layout_state.new.tree c.args.h (with_layout_state c.args.state)
    c.args.state.notes c.self.invariant c.write_layout_state.ensures (λ o. refl) (λ o. refl) c.either-self-inside.ensures c.is_noted.ensures.quiet
