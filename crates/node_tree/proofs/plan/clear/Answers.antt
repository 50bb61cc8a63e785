use Rattle.std.proofs.Common.{sym, ◌∙◌}
use Rattle.fx_handles.specs.ArenaLaws.{some_of}
use Rattle.node_tree.proofs.EditLemmas.{if_some_at}
use Rattle.node_tree.proofs.PlanLemmas.{cleared_here, cleared_spent, cleared_counts}
use Rattle.node_tree.proofs.plan.clear.Goals as goal

pub returns-in-Some-clause-here : goal.returns-in-Some-clause-here
returns-in-Some-clause-here g c = λ k here.
    let found = some_of _ c.in-Some.ensures.live.1 in
    let removed = if_some_at _ found.0 _ (c.remove.ensures.value ∙ found.1) c.remove.ensures.removes in
    cleared_here _ _ c.in-Some.h k found.0 removed (here ∙ sym c.in-Some.ensures.live.0)

pub returns-in-Some-clause-now_spent : goal.returns-in-Some-clause-now_spent
returns-in-Some-clause-now_spent g c = λ k here live.
    let found = some_of _ c.in-Some.ensures.live.1 in
    let removed = if_some_at _ found.0 _ (c.remove.ensures.value ∙ found.1) c.remove.ensures.removes in
    cleared_spent _ _ c.in-Some.h k found.0 removed (here ∙ sym c.in-Some.ensures.live.0) live

pub returns-in-Some-clause-retired : goal.returns-in-Some-clause-retired
returns-in-Some-clause-retired g c =
    let found = some_of _ c.in-Some.ensures.live.1 in
    let removed = if_some_at _ found.0 _ (c.remove.ensures.value ∙ found.1) c.remove.ensures.removes in
    (cleared_counts _ _ c.in-Some.h found.0 removed).0

pub returns-in-Some-clause-filled : goal.returns-in-Some-clause-filled
returns-in-Some-clause-filled g c =
    let found = some_of _ c.in-Some.ensures.live.1 in
    let removed = if_some_at _ found.0 _ (c.remove.ensures.value ∙ found.1) c.remove.ensures.removes in
    (cleared_counts _ _ c.in-Some.h found.0 removed).1
