use Rattle.std.proofs.Common.{◌∙◌, sym, ap, Some}
use Rattle.handle_shelf.specs.Shelf.{kept_at}
use Rattle.kept_layers.specs.KeptLayers.{filled}
use Rattle.paint_owner.specs.PaintOwner.{frame_layer}
use Rattle.paint_owner.proofs.laws.unmarked_roots_stay.Goals as goal

pub returns : goal.returns
returns c = λ cell before after now o p f g stands tops_are unmarked keeps.
    let e = c.unmarked_groups_stay.ensures.root cell before after now p f g stands tops_are unmarked in
    record { top = keeps.top ∙ ap (λ ps. Some ps) (sym e); root = keeps.root ∙ ap (λ ps. Some (frame_layer (filled (kept_at o.wholes) ps))) (sym e) }
