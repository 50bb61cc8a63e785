use Rattle.widget_model.specs.UpdateLaws.{updates_mean}
use Rattle.widget_model.proofs.laws.updates_means.Goals as goal

pub returns : goal.returns
returns c = updates_mean
