use Rattle.tree_marks.proofs.Closing.{IsLinkedBut-mark, IsLinked-sweep, HasBelow-from, IsClosed-mark, IsClosed-swept}
use Rattle.tree_marks.proofs.laws.marks_are_told.Goals as goal

pub returns-clause-linked : goal.returns-clause-linked
returns-clause-linked g c = IsLinkedBut-mark

pub returns-clause-links : goal.returns-clause-links
returns-clause-links g c = IsLinked-sweep

pub returns-clause-below : goal.returns-clause-below
returns-clause-below g c = HasBelow-from

pub returns-clause-closed : goal.returns-clause-closed
returns-clause-closed g c = λ m ok whole ends are. IsClosed-mark m ok ends are whole

pub returns-clause-closes : goal.returns-clause-closes
returns-clause-closes g c = λ m ok whole ends are. IsClosed-swept m ok ends are whole
