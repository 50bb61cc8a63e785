use Rattle.std.proofs.Common.{◌+◌, map, ap, ◌∙◌}
use Rattle.build_form.specs.FullBuild.{built}
use Rattle.build_form.specs.Program.{blueprint_of}
use Rattle.element_tree.specs.Element.{made_count}
use Rattle.element_tree.specs.Nodes.{nodes_of}
use Rattle.build_walk.specs.Kept.{node_over}
use Rattle.build_walk.specs.Standing.{pasts_from, first_builds}
use Rattle.build_walk.proofs.Items.{items_done, items_stop, items_counted, node_grown}
use Rattle.build_walk.proofs.Phases.{old_known}
use Rattle.build_walk.proofs.second.items_complete_the_build.Goals as goal

pub returns-clause-nodes : goal.returns-clause-nodes
returns-clause-nodes c = λ p marks old scrolled t screen w h e kids gs mid after checked s small done waits is.
    let known = old_known p marks old scrolled t s (c.standing_elements_are_known.ensures.known p marks old scrolled t checked s) in
    items_done (blueprint_of p) (pasts_from p s.forest) c.same_means_equal.ensures.widgets old known screen (made_count t + 1) w small (node_over scrolled e kids) mid
    (c.first_phases_go_on_from_elements.ensures.same p marks old scrolled t w checked s ∙ done) waits (map (nodes_of scrolled) gs) after is
    ∙ ap (λ n. built n after.next) (node_grown scrolled h e kids gs)

pub returns-clause-fault : goal.returns-clause-fault
returns-clause-fault c = λ p marks old scrolled t screen w n mid f checked s small done waits is.
    let known = old_known p marks old scrolled t s (c.standing_elements_are_known.ensures.known p marks old scrolled t checked s) in
    items_stop (blueprint_of p) (pasts_from p s.forest) c.same_means_equal.ensures.widgets old known screen (made_count t + 1) w small n mid
    (c.first_phases_go_on_from_elements.ensures.same p marks old scrolled t w checked s ∙ done) waits f is

pub returns-clause-builds : goal.returns-clause-builds
returns-clause-builds c = λ p marks old scrolled t screen w n mid checked s small done waits.
    let known = old_known p marks old scrolled t s (c.standing_elements_are_known.ensures.known p marks old scrolled t checked s) in
    items_counted (blueprint_of p) (pasts_from p s.forest) c.same_means_equal.ensures.widgets old known screen (made_count t + 1) w small n mid
    (c.first_phases_go_on_from_elements.ensures.same p marks old scrolled t w checked s ∙ done) waits marks (c.standing_elements_are_known.ensures.entered p marks old scrolled t s)
    (first_builds (blueprint_of p) old marks (made_count t + 1) w) (c.first_phases_go_on_from_elements.ensures.builds p marks old scrolled t w checked s)
