use Rattle.layout_walk.proofs.Flushing.{view_full}
use Rattle.layout_walk.proofs.laws.flushes_show_full_layout.Goals as goal

pub returns : goal.returns
returns c = λ s view h v kids w below lays shown offset.
    view_full (record {
      boxes = c.rules_see_frames.ensures.boxes;
      slivers = c.rules_see_frames.ensures.slivers;
      greatest = c.sizes_see_no_offsets.ensures.greatest;
    }) s (c.rules_are_lawful.ensures s) view h v kids w below lays shown offset
