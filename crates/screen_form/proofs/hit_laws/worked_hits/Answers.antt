use Rattle.std.proofs.Common.{refl}
use Rattle.screen_form.specs.Hits.{asked}
use Rattle.screen_form.proofs.hit_laws.worked_hits.Goals as goal

pub returns : goal.returns
unfolding asked
returns c = record { first_corner = refl; last_inside = refl; right_edge = refl; bottom_edge = refl; left_of_it = refl; on_top = refl; absorbed = refl; not_absorbed = refl; ignored = refl; hidden = refl; in_sliver = refl; past_sliver = refl; unseen_sliver = refl; painted = refl; unpainted = refl; members = refl }
