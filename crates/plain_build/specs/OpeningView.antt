-- What is known of a node before anything below it is entered, as the program says it.
use Rattle.std.specs.Prelude.{map}
use Rattle.widget_model.specs.View.{shared}
use Rattle.plain_build.specs.declared.opening.Opening.{Opening as OpeningOfNode}
use Rattle.build_form.specs.Entering.{Opening, opening}
use Rattle.build_form.specs.Lent.{lent}

abbrev pub plain_opening : OpeningOfNode → Opening
plain_opening o = opening (lent o.partner) o.number o.fields (map shared o.given.items)
