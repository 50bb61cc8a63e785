use Rattle.build_walk.proofs.Alike.{vanish_alike, scroll_alike}
use Rattle.build_walk.proofs.old_elements.types_draw_alike.Goals as goal

pub returns-clause-vanish : goal.returns-clause-vanish
returns-clause-vanish c = vanish_alike

pub returns-clause-scroll : goal.returns-clause-scroll
returns-clause-scroll c = scroll_alike
