use Rattle.std.proofs.Common.{refl}
use Rattle.screen_form.specs.Painted.{painted}
use Rattle.screen_form.proofs.paint_laws.worked_paints.Goals as goal

pub returns : goal.returns
unfolding painted
returns c = record { written = refl; padded = refl; empty = refl; in_order = refl; half_seen = refl; faded_out = refl; wholly_seen = refl; seen_alone = refl; plugged = refl; unplugged = refl; boundary_alone = refl; clipped_away = refl; scrolled_past = refl; clipped_alone = refl; clipped_round = refl; not_shown = refl; shown = refl }
