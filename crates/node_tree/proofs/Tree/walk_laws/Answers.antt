use Rattle.std.proofs.Common.{cond, ℕ}
use Rattle.fx_handles.specs.Handle.{same}
use Rattle.node_tree.proofs.TreeLemmas.{Holds-from_Is, subtree_is, subtree_is-tree_of, child_of, parent_facts, top_iff, subtree_few}
use Rattle.node_tree.proofs.Walks.{child_inside, child_without_parent, children_apart, frame, written_stands, shape-set_value, tops-shape, weigh-shape}
use Rattle.node_tree.proofs.Tree.walk_laws.Goals as goal

pub returns : goal.returns
returns g c = record {
  holds = λ t h is live. Holds-from_Is t is.0 h is.1 live;
  subtree = subtree_is;
  part = λ t f h is live. subtree_is-tree_of t f h is (is.whole h live);
  smaller = λ t h k is among. (child_of t is.0 h k is.1 among).smaller;
  inside = λ t h k x is among inside. child_inside t is.0 h k x is.1 among inside;
  above = λ t h k is among inside. child_without_parent t is.0 h k is.1 among inside;
  apart = λ t h k c x is first second ne in_k in_c. children_apart t is.0 h k c x is.1 first second ne in_k in_c;
  larger = λ t h p is has. (parent_facts t is.0 h p is.1 has).1;
  tops = λ t h is live. top_iff t is.0 h is.1 live;
  few = λ t h is. subtree_few t is.0 h is.1;
  frame = frame;
  writes = written_stands;
  shape = shape-set_value;
  same_tops = tops-shape;
  same_size = weigh-shape (λ _. 1);
  same_handles = λ f g h shape. weigh-shape (λ k. cond {A = ℕ} (same k h) 1 0) f g shape;
}
