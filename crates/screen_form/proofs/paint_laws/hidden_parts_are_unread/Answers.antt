use Rattle.fx_geom.specs.Offset.{origin}
use Rattle.layer_tree.specs.declared.kind.LayerKind.TheVariants as kind
use Rattle.screen_form.proofs.Unread.{unread}
use Rattle.screen_form.proofs.paint_laws.hidden_parts_are_unread.Goals as goal

pub returns : goal.returns
returns c = λ cell delegates l. λ i. record { kind = kind.Offset origin; items = unread cell delegates l origin i }
