use Rattle.std.proofs.Common.{refl}
use Rattle.std.proofs.lemmas.Str.{IsCharBoundary-start}
use Rattle.text_cells.proofs.clusters.cursor_on.Goals as goal

pub returns : goal.returns
returns c =
    let made = c.new.ensures in
    record {
      on = made.on c.args.text.now c.utf8.text refl (IsCharBoundary-start c.args.text.now c.utf8.text);
      extended = made.is_extended;
      idle = made.fresh.0;
      asks = made.fresh.1;
    }
