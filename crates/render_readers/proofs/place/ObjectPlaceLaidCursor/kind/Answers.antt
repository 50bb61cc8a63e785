use Rattle.std.proofs.Common.{◌∙◌, ap}
use Rattle.widget_model.specs.declared.widgets.Widget.{Widget}
use Rattle.widget_model.specs.Plain.{PlainWidget, look_of}
use Rattle.widget_model.specs.View.{look_in}
use Rattle.render_readers.proofs.Reading.{look_read}
use Rattle.render_readers.proofs.place.ObjectPlaceLaidCursor.kind.Goals as goal

pub returns : goal.returns
returns c =
    ap (λ (w : Widget). look_in w.kind) c.deref.ensures
    ∙ ap (λ (w : PlainWidget). look_of w) c.widget.ensures
    ∙ look_read c.args.self.now.tree.now.tree c.args.self.now.at c.stands.ensures c.args.self.now.object.now c.args.self.now.stored
