use Rattle.counted_frames.proofs.Going.{PhasedLaws, frame_keeps_on}
use Rattle.counted_frames.proofs.sessions.phased_frames_keep_to_their_work.Goals as goal

pub returns : goal.returns
returns c =
    let laws : PhasedLaws = record {
      layouts = c.phased_layouts_keep_to_their_region.ensures.twice;
      paints = c.phased_frames_paint_their_region.ensures.paints;
      first_paints = c.phased_frames_paint_their_region.ensures.first;
      layout_causes = c.phased_frames_leave_causes.ensures.layouts;
      paint_causes = c.phased_frames_leave_causes.ensures.paints;
      lays = c.layout_keeps_nodes.ensures.boxes;
      boxes = c.proxies_pass_their_bounds_on.ensures.holds;
      sizes = c.sizes_meet_bounds.ensures;
      fields = c.fields_leave_the_projection.ensures;
      over_builds = c.work_is_over_the_build.ensures;
    } in
    frame_keeps_on laws c.frames_keep_to_their_work.ensures
