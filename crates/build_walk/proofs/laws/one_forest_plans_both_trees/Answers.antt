use Rattle.std.proofs.Common.{[], None, refl, sym, ◌∙◌}
use Rattle.std.specs.Option.{option_to_list}
use Rattle.node_tree.specs.Plan.{entries}
use Rattle.node_tree.specs.Tree.{node_at}
use Rattle.plain_tree.specs.declared.role.RenderRole.TheVariants.{Plain}
use Rattle.element_tree.specs.Element.{element_at}
use Rattle.render_tree.specs.Tree.{object_at}
use Rattle.build_walk.specs.Renewing.{renewals, drawn}
use Rattle.build_walk.proofs.Drawing.{renders_are}
use Rattle.build_walk.proofs.Handling.{tops_mapped, elements_distinct, elements_live, elements_updated, elements_follow, drawn_distinct, drawn_live, ends, some_mapped}
use Rattle.build_walk.proofs.laws.one_forest_plans_both_trees.Goals as goal

pub returns-clause-elements : goal.returns-clause-elements
returns-clause-elements c = λ t root scrolled f go differ top.
    c.plan_laws.ensures.entries t (entries None (renewals f)) root [] (renewals f) refl (ends (option_to_list root) ∙ top ∙ sym (tops_mapped f))
    (elements_distinct scrolled (element_at t) f differ go)
    (λ k low. some_mapped _ (node_at t k) (elements_live scrolled (element_at t) f k low go))

pub returns-clause-follows : goal.returns-clause-follows
returns-clause-follows c = λ t f go. elements_follow (λ n. 0) (element_at t) None f go

pub returns-clause-renewed : goal.returns-clause-renewed
returns-clause-renewed c = λ t f go. elements_updated (λ n. 0) (element_at t) f go

pub returns-clause-drawn : goal.returns-clause-drawn
returns-clause-drawn c = λ t root inactive scrolled f are differ top.
    c.plan_laws-2.ensures.entries t (entries None (drawn Plain None f)) root inactive (drawn Plain None f) refl top
    (drawn_distinct scrolled (object_at t) Plain None f differ are)
    (λ k low. some_mapped _ (node_at t k) (drawn_live scrolled (object_at t) Plain None f k low are))

pub returns-clause-renders : goal.returns-clause-renders
returns-clause-renders c = λ t scrolled f g are updated. renders_are (object_at t) scrolled Plain None f g are updated
