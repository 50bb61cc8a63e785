use Rattle.std.proofs.Common.{◌∙◌, ap}
use Rattle.std.specs.Ordering.{eq_by_cmp}
use Rattle.fx_expr.specs.contracts.values.ValueOrd.TheImpl as order
use Rattle.widget_keys.specs.Key.{is_repeat}
use Rattle.reconcile.proofs.KeyTests.{is_repeat-ties}
use Rattle.reconcile.proofs.LentKeys.{is_repeat-lent}
use Rattle.reconcile.proofs.Repeats.{all_differ}
use Rattle.reconcile.proofs.laws.no_lent_repeat_is_found.Goals as goal

pub returns : goal.returns
returns c = λ ws keys same none.
    all_differ ws (λ k r.
    let by_order = eq_by_cmp (order.ghosts).cmp in
    none k (is_repeat-lent by_order keys k ∙ ap (λ ks. is_repeat by_order ks k) same ∙ is_repeat-ties _ k ∙ r))
