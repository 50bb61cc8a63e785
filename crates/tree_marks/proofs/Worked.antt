-- The marks on small trees are as they were worked out by hand.
use Rattle.std.proofs.Common.{refl}
use Rattle.std.proofs.lemmas.Bool.{false≢true, true≢false}
use Rattle.fx_handles.specs.Handle.{same}
use Rattle.tree_marks.specs.Worked.{Works}

pub works : Works
unfolding same
works = record {
  reached = refl;
  told = refl;
  also_told = refl;
  asked = refl;
  hidden = refl;
  stripped = refl;
  toggled = refl;
  each = refl;
  at_once = refl;
  painted = refl;
  top_painted = refl;
  left_open = λ c. false≢true ((c.1.0 refl refl).0 refl refl);
  left_apart = (λ _ _. (λ e _. absurd (false≢true e), tt), (λ _ _. (λ _ _. refl, tt), (λ e _. absurd (true≢false e), (λ _ _. tt, tt, tt), tt), tt), tt);
  unseen_open = λ c. false≢true ((c.1.0 refl refl).0 refl refl);
  unseen_apart = (λ _ _. (λ e _. absurd (false≢true e), tt), (λ _ _. (λ _ _. refl, tt), (λ e _. absurd (true≢false e), tt, tt), tt), tt);
  stale_told = (λ e. absurd (false≢true e), (λ e. absurd (false≢true e), (λ e. absurd (false≢true e), tt, tt), tt), tt);
  stale_unlinked = λ l. false≢true (l.0 refl refl);
}
