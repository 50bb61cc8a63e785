use Rattle.std.proofs.Common.{refl, true}
use Rattle.element_tree.specs.Edits.{with_flag}
use Rattle.element_tree.proofs.Indexed.{indexed-changed}
use Rattle.element_tree.proofs.ElementTree.mark_dirty.Goals as goal

pub invariant_of-self : goal.invariant_of-self
invariant_of-self c =
    indexed-changed c.self.inside.numbers.items c.self.inside.tree c.set_flag.new.tree c.self.inside.next c.args.h (with_flag true) c.self.invariant c.set_flag.ensures (λ e. refl) (λ e at declared. declared)
