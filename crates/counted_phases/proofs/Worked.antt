-- The worked trees.
use Rattle.std.proofs.Common.{refl, ◌≡◌, ℕ}
use Rattle.std.proofs.lemmas.Bool.{false≢true}
use Rattle.fx_handles.specs.Handle.{same}
use Rattle.counted_phases.specs.Worked.{WorksOfPhases}

pub worked : WorksOfPhases
unfolding same
worked = record {
  size = refl;
  due = refl;
  due_list = refl;
  outer = (record { number = refl; look = refl; told = refl; count = refl }, (record { number = refl; look = refl; told = refl; count = refl }, tt, tt), tt);
  stays = refl;
  stays_outside = λ f. false≢true ((f.1.0 refl).0 refl);
  grows = refl;
  grows_inside = ((λ e. refl), ((λ s. ((λ e. refl), tt)), tt));
  left = refl;
  climbs = refl;
  flags = refl;
  loses = refl;
  goes = refl;
  loses_inside = ((λ e. refl), ((λ s. ((λ e. refl), tt)), tt));
  corrected = ((λ is e. seven e), ((λ is. absurd (false≢true is)), refl, tt), tt);
  bare = refl;
  item_stays = refl;
  list_counts = refl;
  item_counts = refl;
}
  where
    seven : ◌≡◌ {A = ℕ} 7 0 → ⊥
    seven e = cc
