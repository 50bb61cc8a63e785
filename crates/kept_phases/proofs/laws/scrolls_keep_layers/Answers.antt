use Rattle.kept_phases.proofs.Unread.{scrolled_layers}
use Rattle.kept_phases.proofs.laws.scrolls_keep_layers.Goals as goal

pub returns : goal.returns
returns c = λ cell delegates o old mid new h v scroll is at writes sets kept. scrolled_layers old mid new h v scroll at writes cell delegates o is sets kept
