use Rattle.layout_form.proofs.Fixed.{sizes_fixed}
use Rattle.layout_form.proofs.laws.bounds_fix_sizes.Goals as goal

pub returns : goal.returns
returns c = sizes_fixed
