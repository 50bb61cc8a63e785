use Rattle.layout_form.proofs.Meets.{object_meets}
use Rattle.layout_form.proofs.laws.sizes_meet_bounds.Goals as goal

pub returns : goal.returns
returns c s r b = (object_meets s r).within b
