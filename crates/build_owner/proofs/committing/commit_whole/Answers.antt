use Rattle.std.proofs.Common.{Some, [], refl, sym, ◌∙◌}
use Rattle.build_walk.specs.Renewing.{renewals}
use Rattle.build_owner.specs.Committing.{whole_tree, whole_drawn}
use Rattle.build_owner.proofs.Cycling.{ok_more}
use Rattle.build_owner.proofs.Sizes.{size_renewed}
use Rattle.build_owner.proofs.Whole.{only_one, render_plan, element_plan, element_follows}
use Rattle.build_owner.proofs.committing.commit_whole.Goals as goal

pub redraw-requires : goal.redraw-requires
redraw-requires c =
    let p = c.requires in
    let r = c.args.r.now.tree in (
      whole_drawn p,
      render_plan c.args.t.now.tree r c.args.g.now c.args.walk.now c.args.root p c.index-top.result.now (c.index-top.ensures ∙ only_one c.args.walk.now.tops.items p.top _ p.tops_are)
          (c.one_forest_plans_both_trees.ensures.drawn r (Some p.top) [] p.scrolled (whole_tree p) p.drawn_is p.differ (sym p.one_top)),
    )

pub renew-requires-clause-plan : goal.renew-requires-clause-plan
renew-requires-clause-plan c =
    let p = c.requires in
    let t = c.args.t.now.tree in (
      renewals (whole_tree p),
      element_plan t c.args.r.now.tree c.args.g.now c.args.walk.now c.args.root p
          (c.one_forest_plans_both_trees.ensures.elements t (Some c.args.root) p.scrolled (whole_tree p) p.go p.differ refl),
    )

pub renew-requires-clause-follows : goal.renew-requires-clause-follows
renew-requires-clause-follows c =
    let p = c.requires in
    element_follows c.args.t.now.tree c.args.r.now.tree c.args.g.now c.args.walk.now c.args.root p (c.one_forest_plans_both_trees.ensures.follows c.args.t.now.tree (whole_tree p) p.go)

pub returns-clause-elements : goal.returns-clause-elements
returns-clause-elements c =
    let t = c.args.t.now.tree in
    ok_more _ _ c.renew.result (λ plain. λ p. plain (renewals (whole_tree p)) (whole_tree p)
    (element_plan t c.args.r.now.tree c.args.g.now c.args.walk.now c.args.root p
    (c.one_forest_plans_both_trees.ensures.elements t (Some c.args.root) p.scrolled (whole_tree p) p.go p.differ refl))
    (c.one_forest_plans_both_trees.ensures.renewed t (whole_tree p) p.go)) c.renew.ensures.plain

pub returns-clause-names : goal.returns-clause-names
returns-clause-names c = ok_more _ _ c.renew.result (λ named. named c.requires.names) c.renew.ensures.names

pub returns-clause-redrawn : goal.returns-clause-redrawn
returns-clause-redrawn c =
    let r = c.args.r.now.tree in
    ok_more _ _ c.renew.result (λ root. λ p. c.in_ok-redraw.ensures.redrawn (whole_drawn p)
    (render_plan c.args.t.now.tree r c.args.g.now c.args.walk.now c.args.root p c.index-top.result.now (c.index-top.ensures ∙ only_one c.args.walk.now.tops.items p.top _ p.tops_are)
    (c.one_forest_plans_both_trees.ensures.drawn r (Some p.top) [] p.scrolled (whole_tree p) p.drawn_is p.differ (sym p.one_top)))) c.renew.ensures.root

pub returns-clause-used : goal.returns-clause-used
returns-clause-used c =
    let t = c.args.t.now.tree in
    ok_more _ _ c.renew.result (λ used. λ p. used (renewals (whole_tree p))
    (element_plan t c.args.r.now.tree c.args.g.now c.args.walk.now c.args.root p
    (c.one_forest_plans_both_trees.ensures.elements t (Some c.args.root) p.scrolled (whole_tree p) p.go p.differ refl)) ∙ size_renewed (whole_tree p)) c.renew.ensures.used

pub returns-clause-used_drawn : goal.returns-clause-used_drawn
returns-clause-used_drawn c =
    let r = c.args.r.now.tree in
    ok_more _ _ c.renew.result (λ root. λ p. c.in_ok-redraw.ensures.used (whole_drawn p)
    (render_plan c.args.t.now.tree r c.args.g.now c.args.walk.now c.args.root p c.index-top.result.now (c.index-top.ensures ∙ only_one c.args.walk.now.tops.items p.top _ p.tops_are)
    (c.one_forest_plans_both_trees.ensures.drawn r (Some p.top) [] p.scrolled (whole_tree p) p.drawn_is p.differ (sym p.one_top)))) c.renew.ensures.root

pub returns-clause-inserted : goal.returns-clause-inserted
returns-clause-inserted c = ok_more _ _ c.renew.result (λ root. c.in_ok-redraw.ensures.inserted) c.renew.ensures.root
