use Rattle.work_sets.proofs.More.{region_more, paint_more, idle_layout_within, idle_paint_within}
use Rattle.work_sets.proofs.laws.more_changes_take_no_less.Goals as goal

pub returns-clause-layout : goal.returns-clause-layout
returns-clause-layout c = region_more

pub returns-clause-paint : goal.returns-clause-paint
returns-clause-paint c = paint_more

pub returns-clause-layout_flags : goal.returns-clause-layout_flags
returns-clause-layout_flags c = idle_layout_within

pub returns-clause-paint_flags : goal.returns-clause-paint_flags
returns-clause-paint_flags c = idle_paint_within
