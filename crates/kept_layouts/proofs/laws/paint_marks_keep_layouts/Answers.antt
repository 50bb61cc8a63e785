use Rattle.kept_layouts.proofs.laws.paint_marks_keep_layouts.Goals as goal
use Rattle.kept_layouts.proofs.Changes.{paint_keeps}

pub returns : goal.returns
returns c = paint_keeps
