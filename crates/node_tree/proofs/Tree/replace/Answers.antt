use Rattle.std.proofs.Common.{refl}
use Rattle.node_tree.specs.Forest.{set_value}
use Rattle.node_tree.proofs.TreeLemmas.{wrote_is}
use Rattle.node_tree.proofs.Tree.replace.Goals as goal

pub invariant_of-self : goal.invariant_of-self
invariant_of-self g c = (set_value c.args.h c.args.value c.self.invariant.0, wrote_is _ _ c.args.h c.args.value c.replace_value.ensures.writes refl refl c.self.invariant.0 c.self.invariant.1)

pub returns-clause-plain : goal.returns-clause-plain
returns-clause-plain g c = rw (← c.self.view_is) (wrote_is _ _ c.args.h c.args.value c.replace_value.ensures.writes refl refl)
