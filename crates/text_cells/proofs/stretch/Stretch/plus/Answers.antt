use Rattle.std.proofs.Common.{refl}
use Rattle.text_cells.proofs.PassLemmas.{stretch_plus}
use Rattle.text_cells.proofs.stretch.Stretch.plus.Goals as goal

pub returns-clause-holds : goal.returns-clause-holds
returns-clause-holds c cs cluster holds is_piece = stretch_plus c.args.self _ c.args.piece cs cluster holds is_piece refl refl refl
