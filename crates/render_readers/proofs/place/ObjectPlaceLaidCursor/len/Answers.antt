use Rattle.render_readers.proofs.Reading.{count_read}
use Rattle.render_readers.proofs.place.ObjectPlaceLaidCursor.len.Goals as goal

pub returns : goal.returns
returns c =
    let t = c.args.self.now.tree.now.tree in
    let h = c.args.self.now.at in
    count_read t h c.args.self.now.below.now c.args.self.now.listed (c.child_laws.ensures.listed t h c.stands.ensures)
