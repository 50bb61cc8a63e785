use Rattle.layout_form.proofs.Objects.{objects_map}
use Rattle.layout_form.proofs.laws.objects_of_a_list.Goals as goal

pub returns : goal.returns
returns c = objects_map
