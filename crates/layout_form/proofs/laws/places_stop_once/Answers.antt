use Rattle.layout_form.proofs.Starts.{starts_stop}
use Rattle.layout_form.proofs.laws.places_stop_once.Goals as goal

pub returns : goal.returns
returns c = starts_stop
