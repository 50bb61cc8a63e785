use Rattle.session_laws.proofs.Sound.{Known, sound_changed, sound_framed, sound_first}
use Rattle.session_laws.proofs.numbers.sound_changes.Goals as goal

pub returns-clause-changed : goal.returns-clause-changed
returns-clause-changed c =
    let known : Known =
    record {
      fields = c.changes_keep_numbering.ensures.fields;
      scroll = c.changes_keep_numbering.ensures.scroll;
      offsets = c.changes_keep_numbering.ensures.offsets;
      numbered = c.numbers_differ.ensures;
      survive = c.survivors.ensures.whole;
      well = c.builds_are_well_built.ensures.whole;
      fit = λ p screen old next after root tree checked is well nothing differ.
          c.owned_handlers_fit.ensures tree (c.handlers_belong_to_nodes_above.ensures p screen old next after root tree checked is well nothing) differ;
      alone = c.built_trees_vanish_alone.ensures;
      one = c.one_root_is_laid_out.ensures;
      order = c.projection_keeps_order.ensures;
      lays = c.layout_keeps_nodes.ensures.boxes;
      typed_widgets = c.checked_widgets_are_typed.ensures;
      root_handlers = c.handlers_fit_their_owners.ensures.roots;
    } in
    sound_changed known

pub returns-clause-framed : goal.returns-clause-framed
returns-clause-framed c =
    let known : Known =
    record {
      fields = c.changes_keep_numbering.ensures.fields;
      scroll = c.changes_keep_numbering.ensures.scroll;
      offsets = c.changes_keep_numbering.ensures.offsets;
      numbered = c.numbers_differ.ensures;
      survive = c.survivors.ensures.whole;
      well = c.builds_are_well_built.ensures.whole;
      fit = λ p screen old next after root tree checked is well nothing differ.
          c.owned_handlers_fit.ensures tree (c.handlers_belong_to_nodes_above.ensures p screen old next after root tree checked is well nothing) differ;
      alone = c.built_trees_vanish_alone.ensures;
      one = c.one_root_is_laid_out.ensures;
      order = c.projection_keeps_order.ensures;
      lays = c.layout_keeps_nodes.ensures.boxes;
      typed_widgets = c.checked_widgets_are_typed.ensures;
      root_handlers = c.handlers_fit_their_owners.ensures.roots;
    } in
    sound_framed known

pub returns-clause-first : goal.returns-clause-first
returns-clause-first c =
    let known : Known =
    record {
      fields = c.changes_keep_numbering.ensures.fields;
      scroll = c.changes_keep_numbering.ensures.scroll;
      offsets = c.changes_keep_numbering.ensures.offsets;
      numbered = c.numbers_differ.ensures;
      survive = c.survivors.ensures.whole;
      well = c.builds_are_well_built.ensures.whole;
      fit = λ p screen old next after root tree checked is well nothing differ.
          c.owned_handlers_fit.ensures tree (c.handlers_belong_to_nodes_above.ensures p screen old next after root tree checked is well nothing) differ;
      alone = c.built_trees_vanish_alone.ensures;
      one = c.one_root_is_laid_out.ensures;
      order = c.projection_keeps_order.ensures;
      lays = c.layout_keeps_nodes.ensures.boxes;
      typed_widgets = c.checked_widgets_are_typed.ensures;
      root_handlers = c.handlers_fit_their_owners.ensures.roots;
    } in
    λ p ds checked. sound_first known p ds checked
