use Rattle.std.proofs.Common.{ap, sym, ◌∙◌, Option}
use Rattle.fx_handles.specs.declared.Handle.{Handle}
use Rattle.fx_handles.specs.Handle.{same}
use Rattle.frame_owner.specs.Nodes.{is_alone}
use Rattle.frame_owner.proofs.settling.is_alone.Goals as goal

pub returns-in-Some : goal.returns-in-Some
unfolding same
returns-in-Some c = c.eq.ensures ∙ ap (λ (o : Option Handle). is_alone c.args.tree.now.tree o c.args.h) (sym c.in-Some.is)
