use Rattle.layout_form.proofs.Seen.{box_seen, sliver_seen}
use Rattle.layout_form.proofs.laws.rules_see_frames.Goals as goal

pub returns-clause-boxes : goal.returns-clause-boxes
returns-clause-boxes c = box_seen

pub returns-clause-slivers : goal.returns-clause-slivers
returns-clause-slivers c = sliver_seen
