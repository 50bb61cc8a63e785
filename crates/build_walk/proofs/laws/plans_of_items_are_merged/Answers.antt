use Rattle.std.proofs.Common.{None, [], map, ap, ◌∙◌}
use Rattle.node_tree.specs.Plan.{entries}
use Rattle.plain_tree.specs.PlainNode.{PlainNodes}
use Rattle.plain_tree.specs.declared.role.RenderRole.TheVariants.{Lazy, Plain}
use Rattle.element_tree.specs.Renewal.{Renewal}
use Rattle.render_tree.specs.Redraw.{Redraw}
use Rattle.render_tree.specs.Tree.{object_at}
use Rattle.build_walk.specs.Renewing.{renewals, drawn}
use Rattle.build_walk.specs.Serving.{Put}
use Rattle.build_walk.specs.Merging.{lists_renewal, lists_redraw, Grown, merged}
use Rattle.build_walk.proofs.Merging.{merges_whole, renewals_grow, nodes_grow, drawn_grow, bare_mapped, bare_drawn}
use Rattle.build_walk.proofs.laws.plans_of_items_are_merged.Goals as goal

pub returns-clause-elements : goal.returns-clause-elements
returns-clause-elements c = λ p f gs bare.
    merges_whole lists_renewal p (renewals f) (map renewals gs) (bare_mapped f bare) ∙ ap (λ (x : Grown Renewal). merged (entries p x.forest) []) (renewals_grow f gs)

pub returns-clause-drawn : goal.returns-clause-drawn
returns-clause-drawn c = λ t scrolled p f gs are bare.
    merges_whole lists_redraw p (drawn Plain None f) (map (drawn Lazy None) gs) (bare_drawn Plain None f bare)
    ∙ ap (λ (x : Grown Redraw). merged (entries p x.forest) []) (drawn_grow (object_at t) scrolled Plain None f gs are)

pub returns-clause-nodes : goal.returns-clause-nodes
returns-clause-nodes c = λ scrolled f gs. ap (λ (x : Put PlainNodes). x.whole) (nodes_grow scrolled f gs)
