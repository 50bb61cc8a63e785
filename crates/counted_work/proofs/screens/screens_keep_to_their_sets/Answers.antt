use Rattle.counted_work.proofs.ScreenFrames.{few_layouts, few_paints, first_paints, layouts_caused, paints_caused}
use Rattle.counted_work.proofs.screens.screens_keep_to_their_sets.Goals as goal

pub returns-clause-layouts : goal.returns-clause-layouts
returns-clause-layouts c = λ s view before old new top lo ln po pn steps caused unlaid asks windows.
    few_layouts s view before old new top lo ln po pn steps caused unlaid windows asks c.flushes_run_what_is_due.ensures.bound c.same_means_equal.ensures.told c.same_means_equal.ensures.looks

pub returns-clause-paints : goal.returns-clause-paints
returns-clause-paints c = λ s view before old new top lo ln po pn last then steps.
    few_paints s view before old new top lo ln po pn steps c.same_means_equal.ensures.told c.same_means_equal.ensures.looks last then

pub returns-clause-first_paints : goal.returns-clause-first_paints
returns-clause-first_paints c = λ s view before old new top lo ln po pn shows steps. first_paints s view before old new top lo ln po pn steps shows

pub returns-clause-layout_causes : goal.returns-clause-layout_causes
returns-clause-layout_causes c = λ s view before old new top lo ln po pn after steps. layouts_caused s view before old new top lo ln po pn steps after

pub returns-clause-paint_causes : goal.returns-clause-paint_causes
returns-clause-paint_causes c = λ s view before old new top lo ln po pn after steps. paints_caused s view before old new top lo ln po pn steps after
