use Rattle.template_build.proofs.CallLemmas.{root_alone}
use Rattle.template_build.proofs.laws.a_root_is_one_widget.Goals as goal

pub returns : goal.returns
returns c = root_alone
