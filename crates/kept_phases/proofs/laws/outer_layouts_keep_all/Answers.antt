use Rattle.std.proofs.Common.{◌∙◌}
use Rattle.kept_phases.proofs.Beside.{beside_layouts, outer_layers}
use Rattle.kept_phases.proofs.laws.outer_layouts_keep_all.Goals as goal

pub returns-clause-layouts : goal.returns-clause-layouts
returns-clause-layouts c = λ s old new r at_root p is_old is_new here others keeps.
    beside_layouts old new s r at_root (p.ranges.root ∙ (p.paints.marks.root ∙ p.paints.rest.root)) (p.ranges.inactive ∙ (p.paints.marks.inactive ∙ p.paints.rest.inactive)) others is_old is_new here keeps

pub returns-clause-layers : goal.returns-clause-layers
returns-clause-layers c = λ cell delegates o old new p is_old is_new kept. outer_layers cell delegates o old new is_old is_new p kept
