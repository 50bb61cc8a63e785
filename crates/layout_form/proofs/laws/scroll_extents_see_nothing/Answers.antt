use Rattle.layout_form.proofs.Blind.{scrolls_alike}
use Rattle.layout_form.proofs.laws.scroll_extents_see_nothing.Goals as goal

pub returns : goal.returns
returns c = scrolls_alike
