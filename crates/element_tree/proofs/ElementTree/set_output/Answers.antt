use Rattle.std.proofs.Common.{refl}
use Rattle.widget_model.specs.View.{shared}
use Rattle.element_tree.specs.Edits.{with_output}
use Rattle.element_tree.proofs.Indexed.{indexed-changed}
use Rattle.element_tree.proofs.ElementTree.set_output.Goals as goal

pub invariant_of-self : goal.invariant_of-self
invariant_of-self c =
    indexed-changed c.self.inside.numbers.items c.self.inside.tree c.set_output.new.tree c.self.inside.next c.args.h (with_output (shared c.args.w)) c.self.invariant c.set_output.ensures (λ e. refl) (λ e at declared. declared)
