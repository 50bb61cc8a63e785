use Rattle.layout_form.proofs.Corrected.{box_again, sliver_again, tree_again}
use Rattle.layout_form.proofs.laws.corrected_offsets_stay.Goals as goal

pub returns-clause-boxes : goal.returns-clause-boxes
returns-clause-boxes c = box_again

pub returns-clause-slivers : goal.returns-clause-slivers
returns-clause-slivers c = sliver_again

pub returns-clause-trees : goal.returns-clause-trees
returns-clause-trees c = tree_again c.projection_keeps_numbers_apart.ensures
