use Rattle.counted_work.proofs.Going.{FrameLaws, frame_goes}
use Rattle.counted_work.proofs.sessions.frames_keep_to_their_work.Goals as goal

pub returns : goal.returns
returns c =
    let sets = c.screens_keep_to_their_sets.ensures in
    let laws : FrameLaws = record {
      layouts = sets.layouts;
      paints = sets.paints;
      first_paints = sets.first_paints;
      layout_causes = sets.layout_causes;
      paint_causes = sets.paint_causes;
      lays = c.layout_keeps_nodes.ensures.boxes;
      boxes = c.proxies_pass_their_bounds_on.ensures.holds;
      sizes = c.sizes_meet_bounds.ensures;
      fields = c.fields_leave_the_projection.ensures;
      over_builds = c.work_is_over_the_build.ensures;
    } in
    frame_goes laws
