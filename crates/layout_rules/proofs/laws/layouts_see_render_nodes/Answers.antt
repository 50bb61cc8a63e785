use Rattle.layout_rules.proofs.Seeing.{renders_seen, laids_seen, stands_at}
use Rattle.layout_rules.proofs.laws.layouts_see_render_nodes.Goals as goal

pub returns-clause-renders : goal.returns-clause-renders
returns-clause-renders c = renders_seen

pub returns-clause-laids : goal.returns-clause-laids
returns-clause-laids c = laids_seen

pub returns-clause-stands : goal.returns-clause-stands
returns-clause-stands c = stands_at
