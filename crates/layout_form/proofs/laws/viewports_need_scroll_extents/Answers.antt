use Rattle.layout_form.proofs.Seen.{view_scrolls}
use Rattle.layout_form.proofs.laws.viewports_need_scroll_extents.Goals as goal

pub returns : goal.returns
returns c = view_scrolls
