use Rattle.std.proofs.Common.{refl}
use Rattle.render_tree.specs.Marks.{layout_marks, paint_marks}
use Rattle.build_walk.proofs.Redrawing.{drawn_on, old_on, keeps_both, keeps_added, keeps_part}
use Rattle.build_walk.proofs.Settled.{marks_keep}
use Rattle.build_walk.proofs.second.drawn_elements_stay.Goals as goal

pub returns-clause-kept : goal.returns-clause-kept
returns-clause-kept c = λ pasts scrolled olds t r s h keeps old. old_on pasts scrolled olds t r s h keeps old

pub returns-clause-drawn : goal.returns-clause-drawn
returns-clause-drawn c = λ scrolled r s f keeps d. drawn_on r s scrolled f keeps d

pub returns-clause-both : goal.returns-clause-both
returns-clause-both c = keeps_both

pub returns-clause-added : goal.returns-clause-added
returns-clause-added c = keeps_added

pub returns-clause-part : goal.returns-clause-part
returns-clause-part c = λ r s es commits. keeps_part r s es commits

pub returns-clause-laid : goal.returns-clause-laid
returns-clause-laid c = λ also hs r s sets. λ k. marks_keep layout_marks (λ a b o. refl) (λ a b o. refl) r s sets.only k

pub returns-clause-painted : goal.returns-clause-painted
returns-clause-painted c = λ also hs r s sets. λ k. marks_keep paint_marks (λ a b o. refl) (λ a b o. refl) r s sets.only k
