use Rattle.std.proofs.Common.{sym, ◌∙◌}
use Rattle.node_tree.proofs.EditLemmas.{unhooks, unhooks_nothing}
use Rattle.node_tree.proofs.edits.unhook.Goals as goal

pub returns-in-Some-clause-nodes : goal.returns-in-Some-clause-nodes
returns-in-Some-clause-nodes g c = (unhooks _ _ c.args.h c.in-Some.from c.requires (sym c.parent_in.ensures ∙ c.in-Some.is) c.unlink.ensures.unlinks c.unlink.ensures.absent).0

pub returns-in-Some-clause-handles : goal.returns-in-Some-clause-handles
returns-in-Some-clause-handles g c = (unhooks _ _ c.args.h c.in-Some.from c.requires (sym c.parent_in.ensures ∙ c.in-Some.is) c.unlink.ensures.unlinks c.unlink.ensures.absent).1

pub returns-in-None-clause-nodes : goal.returns-in-None-clause-nodes
returns-in-None-clause-nodes g c = unhooks_nothing _ c.args.h c.requires (sym c.parent_in.ensures ∙ c.in-None.is)
