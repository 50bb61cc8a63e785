use Rattle.std.proofs.Common.{refl}
use Rattle.node_tree.proofs.TreeLemmas.{IsTree-written, written_writes, wrote_is}
use Rattle.node_tree.proofs.Tree.value_mut.Goals as goal

pub invariant_of-self-lent : goal.invariant_of-self-lent
invariant_of-self-lent g c = λ _. (
  λ w. IsTree-written (record { nodes = c.self.inside.nodes; root = c.self.inside.root; inactive = c.self.inside.inactive.items }) c.args.h w c.self.invariant,
  c.self.invariant,
)

pub returns : goal.returns
returns g c = (
  rw (← c.self.view_is) refl,
  record {
    writes_back = tt;
    value = rw (← c.self.view_is) c.node_value_mut.ensures.value;
    writes = λ w live. written_writes _ c.args.h w live;
    plain = λ w f live is. wrote_is _ _ c.args.h w (written_writes _ c.args.h w live) refl refl f is;
  },
)
