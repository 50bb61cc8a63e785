use Rattle.std.proofs.Common.{sym, ap, ◌∙◌}
use Rattle.std.specs.Option.{option_copied_mut}
use Rattle.node_tree.proofs.PlanLemmas.{relinks_at}
use Rattle.node_tree.proofs.plan.write.Goals as goal

pub returns-clause-nodes : goal.returns-clause-nodes
returns-clause-nodes g c =
    let here = sym c.get_mut.ensures.value ∙ ap option_copied_mut c.in-Some.is
    in relinks_at g.U.Update.updated c.args.nodes.now c.args.entry _ c.relink.new.node _ c.at.ensures here c.relink.ensures
