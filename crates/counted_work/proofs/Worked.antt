-- The worked trees.
use Rattle.std.proofs.Common.{refl, ap}
use Rattle.std.proofs.lemmas.Bool.{false≢true}
use Rattle.render_tree.specs.Marks.{LayoutTold}
use Rattle.counted_work.specs.Worked.{WorksOfCounts}

pub worked : WorksOfCounts
worked = record {
  inside = ((λ e. absurd (false≢true e)), ((λ s. ((λ e. refl), ((λ s. ((λ e. refl), ((λ s. ((λ e. refl), tt)), tt))), tt))), tt));
  outside = λ f. false≢true (f.0 refl);
  changed_above = ((λ e. refl), ((λ s. ((λ e. refl), ((λ s. ((λ e. refl), ((λ s. ((λ e. refl), tt)), tt))), tt))), tt));
  seen = λ f. false≢true (((f.1.0 refl).1.0 refl).0 refl);
  unseen = ((λ e. absurd (false≢true e)), ((λ s. ((λ e. absurd (false≢true e)), ((λ s. absurd (false≢true s)), tt))), tt));
  asked = ((λ e. absurd (false≢true e)), (λ o. ((λ s. ((λ b e. refl), (λ o. ((λ s. ((λ b. absurd (false≢true b)), (λ o. ((λ s. ((λ b. absurd (false≢true b)), (λ o. tt))), tt)))), tt)))), tt)));
  not_asked = λ f. false≢true (f.0 refl);
  asked_above = ((λ e. refl), (λ o. ((λ s. ((λ b e. absurd (false≢true e)), (λ o. ((λ s. ((λ b. absurd (false≢true b)), (λ o. ((λ s. ((λ b. absurd (false≢true b)), (λ o. tt))), tt)))), tt)))), tt)));
  tight_region = refl;
  loose_region = refl;
  tight_told = refl;
  loose_told = λ e. false≢true (ap (λ (d : LayoutTold). d.is_offstage) e);
  hidden_told = refl;
}
