use Rattle.layout_form.proofs.Corrected.{projection_scrolled}
use Rattle.layout_form.proofs.laws.projections_take_offsets.Goals as goal

pub returns : goal.returns
returns c = projection_scrolled
