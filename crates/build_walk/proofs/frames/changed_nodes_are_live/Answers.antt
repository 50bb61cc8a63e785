use Rattle.std.proofs.Common.{sym, ◌∙◌}
use Rattle.node_tree.specs.Tree.{IsNode}
use Rattle.build_walk.proofs.Reporting.{same_tops}
use Rattle.build_walk.proofs.Settled.{updates, layout_in, paint_in, each_listed, marks_live}
use Rattle.build_walk.proofs.frames.changed_nodes_are_live.Goals as goal

pub returns-clause-left : goal.returns-clause-left
returns-clause-left c = λ t d live. updates t d live

pub returns-clause-layout : goal.returns-clause-layout
returns-clause-layout c = λ t u root hs d g up top live anew.
    each_listed (IsNode u) hs (λ h at. live h (layout_in t root g (top ∙ sym (same_tops t d g up)) h (c.plans_report_all_changes.ensures.layout_causes t root hs d g h up anew at)))

pub returns-clause-paint : goal.returns-clause-paint
returns-clause-paint c = λ t u root hs d g up top live anew.
    each_listed (IsNode u) hs (λ h at. live h (paint_in t root g (top ∙ sym (same_tops t d g up)) h (c.plans_report_all_changes.ensures.paint_causes t root hs d g h up anew at)))

pub returns-clause-tops : goal.returns-clause-tops
returns-clause-tops c = same_tops

pub returns-clause-marked : goal.returns-clause-marked
returns-clause-marked c = λ m also hs ks t u sets all. λ i k low. marks_live m t u sets.only _ (all i k low)
