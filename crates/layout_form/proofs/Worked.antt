-- The worked layouts.
use Rattle.std.proofs.Common.{refl}
use Rattle.layout_form.specs.Layout.{object, objects}
use Rattle.layout_form.specs.Worked.{Works}
use Rattle.layout_form.specs.WorkedFrames.{FramesWork}

pub works : Works
unfolding object objects
works = record {
  shares = refl;
  overflow = refl;
  endless = refl;
  not_shared = refl;
  around = refl;
  unstretched = refl;
  aligned = refl;
  floored = refl;
  positioned = refl;
  shrinks = refl;
  factors = refl;
  hidden = refl;
  placed = refl;
  unplugged = refl;
  plugged = refl;
  wraps = refl;
  tables = refl;
  padded = refl;
  padded_later = refl;
  corrected = refl;
  to_boxes = refl;
  lazily = refl;
  endless_view = refl;
  least_view = refl;
}

-- What rules make of frames.
pub frames_work : FramesWork
frames_work = record {
  row = refl;
  shares = refl;
  stack = refl;
  stacked = refl;
  padded = refl;
  hidden = refl;
  childless = refl;
  start = refl;
  views = refl;
  viewed = refl;
  to_box = refl;
  sliver_padded = refl;
  items = refl;
  listed = refl;
  last = refl;
  fixed = refl;
  free = refl;
  fixed_view = refl;
  fixed_hidden = refl;
  shown = refl;
}
