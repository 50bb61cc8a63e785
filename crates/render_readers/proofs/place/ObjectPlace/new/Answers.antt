use Rattle.render_readers.proofs.Reading.{is_live}
use Rattle.render_readers.proofs.place.ObjectPlace.new.Goals as goal

pub invariant_of-result : goal.invariant_of-result
invariant_of-result c = record {
  live = is_live c.args.tree.now.tree c.args.at c.requires.holds;
  stored = c.requires.stored;
  listed = c.children-below.ensures.value;
}
