use Rattle.layout_form.proofs.Fixed.{boxes_meet, slivers_reach, slivers_paint}
use Rattle.layout_form.proofs.laws.frames_meet_bounds.Goals as goal

pub returns-clause-boxes : goal.returns-clause-boxes
returns-clause-boxes c = boxes_meet

pub returns-clause-scrolls : goal.returns-clause-scrolls
returns-clause-scrolls c = slivers_reach

pub returns-clause-paints : goal.returns-clause-paints
returns-clause-paints c = slivers_paint
