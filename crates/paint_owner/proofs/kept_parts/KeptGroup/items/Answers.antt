use Rattle.std.proofs.Common.{◌≡◌, sym, ap, ◌∙◌, subst, IfOk}
use Rattle.handle_shelf.specs.Shelf.{kept_at}
use Rattle.kept_layers.specs.KeptLayers.{filled}
use Rattle.paint_owner.proofs.Keeping.{closed_items}
use Rattle.paint_owner.proofs.kept_parts.KeptGroup.items.Goals as goal

pub returns-in-Closed : goal.returns-in-Closed
returns-in-Closed c =
    let shared = closed_items (kept_at c.args.wholes.now) c.self.inside.stored c.in-Closed.items c.in-Closed.is in
    subst (λ es. IfOk c.share.result (λ l. l ≡ es)) (sym (ap (filled (kept_at c.args.wholes.now)) (sym c.self.view_is) ∙ shared)) c.share.ensures
