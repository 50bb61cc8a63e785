use Rattle.std.proofs.Common.{refl}
use Rattle.element_tree.specs.Edits.{with_index}
use Rattle.element_tree.proofs.Indexed.{indexed-changed}
use Rattle.element_tree.proofs.ElementTree.set_place.Goals as goal

pub invariant_of-self : goal.invariant_of-self
invariant_of-self c =
    indexed-changed c.self.inside.numbers.items c.self.inside.tree c.set_index.new.tree c.self.inside.next c.args.h (with_index c.args.i) c.self.invariant c.set_index.ensures (λ e. refl) (λ e at declared. declared)
