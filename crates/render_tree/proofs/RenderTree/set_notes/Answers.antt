use Rattle.std.proofs.Common.{refl}
use Rattle.render_tree.specs.Edits.{with_notes}
use Rattle.render_tree.proofs.Quiet.{known_noted}
use Rattle.render_tree.proofs.RenderTree.set_notes.Goals as goal

pub invariant_of-self : goal.invariant_of-self
invariant_of-self c =
    known_noted c.self.inside.users c.self.inside.remarked c.is_noted.result c.either-self-inside.result c.self.inside.tree c.write_notes.new.tree c.args.h (with_notes (record { overflow = c.args.overflow; unbounded = c.args.unbounded }))
    (record { overflow = c.args.overflow; unbounded = c.args.unbounded }) c.self.invariant c.write_notes.ensures (λ o. refl) (λ o. refl) c.either-self-inside.ensures c.is_noted.ensures.quiet
