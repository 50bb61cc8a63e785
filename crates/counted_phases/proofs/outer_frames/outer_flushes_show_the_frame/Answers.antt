use Rattle.layout_walk.specs.Rules.{parts_of}
use Rattle.counted_phases.proofs.FrameShown.{frame_shown}
use Rattle.counted_phases.proofs.outer_frames.outer_flushes_show_the_frame.Goals as goal

pub returns : goal.returns
returns c = λ s view old new top.
    let law = c.rules_are_lawful.ensures s in
    frame_shown s law (record {
      likes = c.trees_answer_as_render_nodes.ensures.likes s;
      answers = c.offsets_may_be_corrected_early.ensures.frames (parts_of s) law;
      full = c.full_layout_is_of_render_nodes.ensures s;
    }) (record { renders = c.layouts_see_render_nodes.ensures.renders; laids = c.layouts_see_render_nodes.ensures.laids }) view old new top
