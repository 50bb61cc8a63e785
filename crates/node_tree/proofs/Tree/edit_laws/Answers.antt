use Rattle.node_tree.proofs.EditLaws.{adds_keep, takes_keep, writes_keep, hooks_keep, lifts_keep, reorders_keep, removes_keep, drops_keep}
use Rattle.node_tree.proofs.Tree.edit_laws.Goals as goal

pub returns : goal.returns
returns g c = record {
  adds = adds_keep;
  takes = takes_keep;
  writes = writes_keep;
  hooks = hooks_keep;
  lifts = lifts_keep;
  reorders = reorders_keep;
  removes = removes_keep;
  drops = drops_keep;
}
