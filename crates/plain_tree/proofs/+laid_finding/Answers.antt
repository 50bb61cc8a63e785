use Rattle.plain_tree.proofs.Numbered.{laid_here, laid_missed}
use Rattle.plain_tree.proofs.+laid_finding.Goals as goal

pub finding::find_laid_in-returns-in-Some-clause-found : goal.finding::find_laid_in-returns-in-Some-clause-found
finding::find_laid_in-returns-in-Some-clause-found t c =
    laid_here c.args.number c.args.children.now c.loop-child.child-index c.child-item.result c.loop-child-test.true c.child-item.is
    c.in-Some.found.now _ c.loop-child.invariant c.in-Some.ensures.found

pub finding::find_laid_in-loop-child-preserved : goal.finding::find_laid_in-loop-child-preserved
finding::find_laid_in-loop-child-preserved t c =
    laid_missed c.args.number c.args.children.now c.loop-child.child-index c.child-item.result c.loop-child-test.true c.child-item.is
    _ c.loop-child.invariant c.in-None.ensures.missing
