use Rattle.screen_form.proofs.Reading.{rises_law}
use Rattle.screen_form.proofs.focus_laws.order_rises.Goals as goal

pub returns : goal.returns
returns c = rises_law
