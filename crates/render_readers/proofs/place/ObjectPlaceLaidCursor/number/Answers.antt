use Rattle.std.proofs.Common.{◌∙◌}
use Rattle.render_readers.proofs.Reading.{number_read}
use Rattle.render_readers.proofs.place.ObjectPlaceLaidCursor.number.Goals as goal

pub returns : goal.returns
returns c = c.number.ensures ∙ number_read c.args.self.now.tree.now.tree c.args.self.now.at c.stands.ensures c.args.self.now.object.now c.args.self.now.stored
