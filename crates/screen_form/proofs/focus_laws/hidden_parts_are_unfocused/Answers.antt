use Rattle.screen_form.proofs.Unheard.{unfocused_law}
use Rattle.screen_form.proofs.focus_laws.hidden_parts_are_unfocused.Goals as goal

pub returns : goal.returns
returns c = unfocused_law
