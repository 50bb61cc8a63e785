use Rattle.std.proofs.Common.{sym, ◌∙◌}
use Rattle.reconcile.proofs.KeyTests.{is_repeat-ties}
use Rattle.reconcile.proofs.Repeats.{all_differ, none_is_found}
use Rattle.reconcile.proofs.laws.no_repeat_is_found.Goals as goal

pub returns : goal.returns
returns c = record {
  by_value = λ ws. (all_differ ws, none_is_found ws);
  by_order = λ ws. (
    λ none. all_differ ws (λ k r. none k (is_repeat-ties _ k ∙ r)),
    λ apart k r. none_is_found ws apart k (sym (is_repeat-ties _ k) ∙ r),
  );
}
