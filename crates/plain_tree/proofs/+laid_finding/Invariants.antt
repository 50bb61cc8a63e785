-- The laid nodes so far don't have the number.
use Rattle.std.proofs.Common.{◌≡◌, drop}
use Rattle.plain_tree.specs.At.{laid_in}
use Rattle.plain_tree.specs.LaidView.{laids_in}
use Rattle.plain_tree.proofs.+laid_finding.Given as goal

abbrev pub invariant-finding::find_laid_in-loop-child : goal.invariant-finding::find_laid_in-loop-child
invariant-finding::find_laid_in-loop-child l = laid_in l.number (laids_in l.children) ≡ laid_in l.number (laids_in (drop l.child-index l.children))
