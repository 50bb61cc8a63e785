use Rattle.build_form.proofs.Layable.{vanish_alone}
use Rattle.build_form.proofs.laws.built_trees_vanish_alone.Goals as goal

pub returns : goal.returns
returns c = vanish_alone
