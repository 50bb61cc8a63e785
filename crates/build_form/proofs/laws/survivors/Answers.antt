use Rattle.build_form.proofs.Differ.{first_differ, first_below, numbers_differ}
use Rattle.build_form.proofs.OldOrNew.{first_kept_or_new, numbers_kept_or_new}
use Rattle.build_form.proofs.laws.survivors.Goals as goal

pub returns-clause-first : goal.returns-clause-first
returns-clause-first c = λ b old next root tree s numbered is.
    let kept = first_kept_or_new b old next root tree s is in
    record {
      differ = first_differ b old next root tree s numbered is;
      known = kept.0;
      below = first_below b old next root tree s numbered is;
      grows = kept.1;
    }

pub returns-clause-whole : goal.returns-clause-whole
returns-clause-whole c = λ b screen old next after root tree numbered is.
    let kept = numbers_kept_or_new b screen old next after root tree is in
    let now = numbers_differ b screen old next after root tree numbered is in
    record { differ = now.differ; known = kept.0; below = now.below; grows = kept.1 }
