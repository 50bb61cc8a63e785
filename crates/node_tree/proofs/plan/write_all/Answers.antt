use Rattle.std.proofs.Common.{ap, ◌∙◌}
use Rattle.std.proofs.Common.{◌++◌}
use Rattle.std.specs.Option.{option_to_list}
use Rattle.node_tree.proofs.PlanLemmas.{writing-live, writing-more}
use Rattle.node_tree.proofs.plan.write_all.Goals as goal

pub write-requires : goal.write-requires
write-requires g c = writing-live g.U.Update.updated _ _ c.in-Some.entry _ _ _ c.loop-entry.invariant (c.pop.ensures.items ∙ ap (λ o. c.pop.new.self.items ++ option_to_list o) c.in-Some.is)

pub loop-entry-preserved : goal.loop-entry-preserved
loop-entry-preserved g c = writing-more g.U.Update.updated _ _ c.in-Some.entry _ _ _ _ c.loop-entry.invariant (c.pop.ensures.items ∙ ap (λ o. c.pop.new.self.items ++ option_to_list o) c.in-Some.is) c.write.ensures.nodes c.write.ensures.handles
