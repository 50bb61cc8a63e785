use Rattle.build_walk.proofs.Finding.{changed_for_layout, changed_for_paint, updated_numbered}
use Rattle.build_walk.proofs.laws.changed_nodes_are_in_the_work_sets.Goals as goal

pub returns-clause-layout : goal.returns-clause-layout
returns-clause-layout c = λ t before top root kids h o w now p apart stands was at number numbered scroll changes.
    changed_for_layout t c.same_means_equal.ensures.told c.same_means_equal.ensures.looks apart before top root kids stands was h o w now at number numbered p scroll changes

pub returns-clause-paint : goal.returns-clause-paint
returns-clause-paint c = λ t before top root kids h o w now p apart stands was at number numbered changes.
    changed_for_paint t c.same_means_equal.ensures.told c.same_means_equal.ensures.looks apart before top root kids stands was h o w now at number numbered p changes

pub returns-clause-numbered : goal.returns-clause-numbered
returns-clause-numbered c = updated_numbered
