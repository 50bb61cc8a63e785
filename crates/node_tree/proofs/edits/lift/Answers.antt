use Rattle.std.proofs.Common.{sym, ◌∙◌}
use Rattle.node_tree.proofs.EditLemmas.{lifts, unhooks, lifted_already}
use Rattle.node_tree.proofs.edits.lift.Goals as goal

pub returns-in-Some-clause-nodes : goal.returns-in-Some-clause-nodes
returns-in-Some-clause-nodes g c =
    let out = unhooks _ _ c.args.h c.in-Some.from c.requires.one (sym c.parent_in.ensures ∙ c.in-Some.is) c.unlink.ensures.unlinks c.unlink.ensures.absent in
    lifts _ _ _ c.args.h _ c.requires.live c.requires.one out.0 out.1 c.set_parent.ensures.sets

pub returns-in-None-clause-nodes : goal.returns-in-None-clause-nodes
returns-in-None-clause-nodes g c = lifted_already _ c.args.h c.requires.one (sym c.parent_in.ensures ∙ c.in-None.is)
