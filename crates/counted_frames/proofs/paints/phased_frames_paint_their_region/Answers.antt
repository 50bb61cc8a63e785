use Rattle.counted_frames.proofs.PaintsCount.{phases_built, stood, kinds}
use Rattle.counted_frames.proofs.paints.phased_frames_paint_their_region.Goals as goal

pub returns-clause-paints : goal.returns-clause-paints
returns-clause-paints c = λ s view before old new top lo ln po pn last then steps plugs caused.
    let same = c.same_means_equal.ensures.looks in
    let put = c.layouts_leave_frames.ensures.put in
    let shows = c.outer_flushes_show_the_frame.ensures in
    let law = c.rules_are_lawful.ensures s in
    c.phased_trees_paint_their_region.ensures.frames s view before old steps.brought new top steps.layouts_between ln po pn last then steps.shows
    (phases_built same put shows s law view before old new top lo ln po pn last then steps) plugs (stood same put shows s law view before old new top lo ln po pn last then steps)
    (kinds same put shows s law view before old new top lo ln po pn last then steps) caused

pub returns-clause-first : goal.returns-clause-first
returns-clause-first c = λ s view before old new top lo ln po pn shows steps was.
    c.screens_keep_to_their_sets.ensures.first_paints s view before steps.brought new top steps.layouts_between ln po pn shows steps.shows was
