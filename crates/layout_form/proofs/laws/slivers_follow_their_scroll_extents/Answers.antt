use Rattle.layout_form.proofs.Scroll.{scroll_tells}
use Rattle.layout_form.proofs.laws.slivers_follow_their_scroll_extents.Goals as goal

pub returns : goal.returns
returns c = scroll_tells
