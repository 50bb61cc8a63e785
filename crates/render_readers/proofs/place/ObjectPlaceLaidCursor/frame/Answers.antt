use Rattle.std.proofs.Common.{◌∙◌, ap}
use Rattle.render_tree.specs.Plain.{frame_or}
use Rattle.render_readers.proofs.Reading.{frame_read}
use Rattle.render_readers.proofs.place.ObjectPlaceLaidCursor.frame.Goals as goal

pub returns : goal.returns
returns c =
    c.frame_or.ensures ∙ ap frame_or c.frame.ensures ∙ frame_read c.args.self.now.tree.now.tree c.args.self.now.at c.stands.ensures c.args.self.now.object.now c.args.self.now.stored
