-- The worked flushes.
use Rattle.std.proofs.Common.{refl}
use Rattle.layout_form.specs.Layout.{object, objects}
use Rattle.layout_walk.specs.Rule.{asks_by, made_by}
use Rattle.layout_walk.specs.Full.{objects as frames_of, laid_trees, shown_trees}
use Rattle.layout_walk.specs.Flush.{flushed, runs}
use Rattle.layout_walk.specs.WorkedFlushes.{WorksOfFlushes}

pub works : WorksOfFlushes
unfolding object objects frames_of asks_by made_by laid_trees shown_trees flushed runs
works = record {
  once = refl;
  again = refl;
  same = refl;
  full = refl;
  lazy = refl;
  lazy_outer = refl;
  second = refl;
  outer_again = refl;
  items = refl;
  due = refl;
  both = refl;
  scrolled = refl;
  far = refl;
}
