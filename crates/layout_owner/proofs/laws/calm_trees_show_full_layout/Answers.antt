use Rattle.layout_owner.proofs.Calming.{calm_shows}
use Rattle.layout_owner.proofs.laws.calm_trees_show_full_layout.Goals as goal

pub returns : goal.returns
returns c = λ s.
    calm_shows c.layouts_see_render_nodes.ensures.renders c.layouts_see_render_nodes.ensures.laids s (c.rules_are_lawful.ensures s) c.quiet_trees_show_full_layout.ensures
    (c.full_layout_is_of_render_nodes.ensures s)
