use Rattle.text_cells.proofs.Found.{wrapped_wraps}
use Rattle.text_cells.proofs.Only.{wrapping_only}
use Rattle.text_cells.proofs.laws.one_wrapping.Goals as goal

pub returns-clause-wraps : goal.returns-clause-wraps
returns-clause-wraps c = wrapped_wraps

pub returns-clause-only : goal.returns-clause-only
returns-clause-only c limit text xs ys a b = wrapping_only limit _ xs ys a b
