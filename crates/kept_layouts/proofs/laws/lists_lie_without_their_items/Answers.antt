use Rattle.layout_form.specs.Object.{Setting}
use Rattle.layout_walk.specs.Rules.{parts_of}
use Rattle.kept_layouts.proofs.laws.lists_lie_without_their_items.Goals as goal
use Rattle.kept_layouts.proofs.Items.{lists_lie, no_items}

pub returns-clause-lists : goal.returns-clause-lists
returns-clause-lists c = λ s.
    let law = c.rules_are_lawful.ensures s in
    lists_lie s law (record {
      likes = c.trees_answer_as_render_nodes.ensures.likes s;
      answers = c.offsets_may_be_corrected_early.ensures.frames (parts_of s) law;
      full = c.full_layout_is_of_render_nodes.ensures s;
    })

pub returns-clause-items : goal.returns-clause-items
returns-clause-items c = λ s.
    no_items s (record {
      likes = c.trees_answer_as_render_nodes.ensures.likes s;
      answers = c.offsets_may_be_corrected_early.ensures.frames (parts_of s) (c.rules_are_lawful.ensures s);
      full = c.full_layout_is_of_render_nodes.ensures s;
    })
