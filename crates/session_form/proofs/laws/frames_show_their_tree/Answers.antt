use Rattle.session_form.proofs.AgainLemmas.{laid_again, framed_again}
use Rattle.session_form.proofs.laws.frames_show_their_tree.Goals as goal

pub returns-clause-trees : goal.returns-clause-trees
returns-clause-trees c =
    laid_again c.corrected_offsets_stay.ensures.boxes c.projections_take_offsets.ensures c.projection_keeps_numbers_apart.ensures

pub returns-clause-frames : goal.returns-clause-frames
returns-clause-frames c =
    framed_again c.corrected_offsets_stay.ensures.boxes c.projections_take_offsets.ensures c.projection_keeps_numbers_apart.ensures c.numbers_differ.ensures
