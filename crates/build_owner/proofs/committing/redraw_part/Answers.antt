use Rattle.std.proofs.Common.{◌∙◌, arith}
use Rattle.build_owner.specs.Staying.{with_items}
use Rattle.build_owner.proofs.Whole.{only_one, one_there, lists_held, plan_whole}
use Rattle.build_owner.proofs.committing.redraw_part.Goals as goal

pub index-top-requires : goal.index-top-requires
index-top-requires c = omega (arith, one_there c.args.walk.now.tops.items c.requires.1.top c.requires.1.tops_are, c.args.walk.now.tops.ok.0)

pub completed-requires : goal.completed-requires
completed-requires c =
    lists_held c.args.r.now.tree c.args.walk.now c.requires.0 c.requires.1 c.root.ensures.tree.0 c.root.ensures.tree.1 c.in_ok-plan.plan.items (c.in_ok-plan.ensures ∙ c.as_slice.ensures.value)

pub redraw_beside-requires : goal.redraw_beside-requires
redraw_beside-requires c =
    let old = c.args.r.now.tree in
    let d = c.requires.0 in
    let q = c.requires.1 in (
      with_items old d,
      plan_whole old c.args.walk.now d q c.root.ensures.tree.0 c.root.ensures.tree.1 c.in_ok-plan.plan.items (c.in_ok-plan.ensures ∙ c.as_slice.ensures.value) c.plan_laws.ensures.entries c.index-top.result.now
          (c.index-top.ensures ∙ only_one c.args.walk.now.tops.items q.top _ q.tops_are) c.in_ok-whole.whole.items c.in_ok-whole.ensures,
    )

pub returns-clause-redrawn : goal.returns-clause-redrawn
returns-clause-redrawn c = λ d q.
    let old = c.args.r.now.tree in
    c.in_ok-redraw_beside.ensures.redrawn (with_items old d)
    (plan_whole old c.args.walk.now d q c.root.ensures.tree.0 c.root.ensures.tree.1 c.in_ok-plan.plan.items (c.in_ok-plan.ensures ∙ c.as_slice.ensures.value) c.plan_laws.ensures.entries c.index-top.result.now
    (c.index-top.ensures ∙ only_one c.args.walk.now.tops.items q.top _ q.tops_are) c.in_ok-whole.whole.items c.in_ok-whole.ensures)
