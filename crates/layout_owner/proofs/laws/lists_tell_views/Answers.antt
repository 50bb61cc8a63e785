use Rattle.layout_owner.proofs.Viewing.{lists_tell}
use Rattle.layout_owner.proofs.laws.lists_tell_views.Goals as goal

pub returns : goal.returns
returns c = lists_tell
