use Rattle.std.proofs.Common.{refl}
use Rattle.layout_walk.proofs.Correcting.{corrected_trees}
use Rattle.layout_walk.proofs.Listing.{items_objects, corrected_items}
use Rattle.layout_walk.proofs.laws.offsets_may_be_corrected_early.Goals as goal

pub returns-clause-trees : goal.returns-clause-trees
returns-clause-trees c = corrected_trees

pub returns-clause-walks : goal.returns-clause-walks
returns-clause-walks c = λ P back ask h v kids w below lays. (refl, lays.member, lays.corrected, tt)

pub returns-clause-items : goal.returns-clause-items
returns-clause-items c = corrected_items

pub returns-clause-frames : goal.returns-clause-frames
returns-clause-frames c = items_objects
