use Rattle.layout_walk.specs.Rules.{parts_of}
use Rattle.counted_phases.proofs.Passed.{after_both, build_named, frames_between}
use Rattle.counted_phases.proofs.outer_frames.frames_pass_between_phases.Goals as goal

pub returns-clause-agree : goal.returns-clause-agree
returns-clause-agree c = λ s view frames old mid ranged brought top first apart flushes stays second made_apart alone whole outer unasked agree unlaid.
    let law = c.rules_are_lawful.ensures s in
    frames_between s law (record {
      likes = c.trees_answer_as_render_nodes.ensures.likes s;
      answers = c.offsets_may_be_corrected_early.ensures.frames (parts_of s) law;
      full = c.full_layout_is_of_render_nodes.ensures s;
    }) (record { renders = c.layouts_see_render_nodes.ensures.renders; laids = c.layouts_see_render_nodes.ensures.laids })
    view frames old mid ranged brought top first apart flushes stays second made_apart alone whole outer unasked agree unlaid

pub returns-clause-unlaid : goal.returns-clause-unlaid
returns-clause-unlaid c = λ frames brought top alone whole. build_named frames brought top alone.tree whole

pub returns-clause-after : goal.returns-clause-after
returns-clause-after c = after_both
