use Rattle.std.proofs.Common.{ℕ, cond, None}
use Rattle.fx_handles.specs.Handle.{same}
use Rattle.node_tree.specs.Tree.{node_at}
use Rattle.node_tree.proofs.Reordering.{tops-reorder_under, weigh-reorder_under, StandsAt-reorder_under, reorder_under-values, reorders_none, reorders_more, all_reordered_is, times_alike, in_order-at}
use Rattle.node_tree.proofs.Tree.order_laws.Goals as goal

pub returns : goal.returns
returns g c = record {
  tops = tops-reorder_under;
  handles = λ t h x hs f is can. weigh-reorder_under (λ y. cond {A = ℕ} (same y x) 1 0) (node_at t) h hs None f is.stands is.distinct can.kept;
  subtree = λ old new h k hs s stands can reorders. StandsAt-reorder_under old new h k hs s stands can reorders;
  values = reorder_under-values;
  begin = reorders_none;
  more = reorders_more;
  all = all_reordered_is;
  same = times_alike;
  places = in_order-at;
}
