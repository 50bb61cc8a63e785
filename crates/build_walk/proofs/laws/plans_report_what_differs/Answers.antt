use Rattle.build_walk.proofs.Changing.{for_layout_decided, for_paint_decided}
use Rattle.build_walk.proofs.laws.plans_report_what_differs.Goals as goal

pub returns-clause-layout : goal.returns-clause-layout
returns-clause-layout c = λ numbered o w was now apart m n scroll.
    for_layout_decided c.same_means_equal.ensures.told c.same_means_equal.ensures.looks numbered apart o was w now m n scroll

pub returns-clause-paint : goal.returns-clause-paint
returns-clause-paint c = λ numbered o w was now apart m n.
    for_paint_decided c.same_means_equal.ensures.told c.same_means_equal.ensures.looks numbered apart o was w now m n
