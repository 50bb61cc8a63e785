use Rattle.layout_rules.proofs.laws.layouts_are_lawful.Goals as goal

pub returns : goal.returns
returns c = λ s. record {
  lawful = c.rules_are_lawful.ensures s;
  renders = c.trees_answer_as_render_nodes.ensures.answers;
  likes = c.trees_answer_as_render_nodes.ensures.likes;
  follow = c.slivers_follow_their_scroll_extents.ensures;
}
