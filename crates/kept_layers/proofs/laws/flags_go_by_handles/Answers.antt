use Rattle.kept_layers.proofs.Listing.{calm_is}
use Rattle.kept_layers.proofs.laws.flags_go_by_handles.Goals as goal

pub returns : goal.returns
returns c = λ f hs. calm_is hs f
