use Rattle.widget_model.specs.UpdateLaws.{key_eq-Decides}
use Rattle.widget_model.proofs.laws.key_eq_means.Goals as goal

pub returns : goal.returns
returns c = key_eq-Decides
