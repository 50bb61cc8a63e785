use Rattle.layout_form.proofs.Extents.{object_gives}
use Rattle.layout_form.proofs.laws.slivers_keep_to_their_view.Goals as goal

pub returns : goal.returns
returns c s r b = (object_gives s r b).paint
