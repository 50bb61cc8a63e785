use Rattle.layout_owner.proofs.Viewing.{listed_views}
use Rattle.layout_owner.proofs.laws.listed_views_are_stored.Goals as goal

pub returns : goal.returns
returns c = listed_views
