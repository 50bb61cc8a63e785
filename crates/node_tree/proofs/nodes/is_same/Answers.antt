use Rattle.std.proofs.Common.{sym, ◌∙◌}
use Rattle.fx_handles.specs.HandleLaws.{same-true, same-eq}
use Rattle.fx_handles.specs.Handle.{same}
use Rattle.node_tree.proofs.nodes.is_same.Goals as goal

pub returns : goal.returns
unfolding same
returns c = (λ e. same-true c.args.h c.args.k (sym c.eq.ensures ∙ e), λ e. c.eq.ensures ∙ same-eq c.args.h c.args.k e)
