use Rattle.std.proofs.Common.{◌≡◌, true}
use Rattle.tree_marks.proofs.Stores.{closed_store, linked_store, law_store, below_store}
use Rattle.tree_marks.proofs.laws.forests_tell_their_stores.Goals as goal

pub returns-clause-closed : goal.returns-clause-closed
returns-clause-closed g c = closed_store

pub returns-clause-linked : goal.returns-clause-linked
returns-clause-linked g c = linked_store

pub returns-clause-law : goal.returns-clause-law
returns-clause-law g c = λ m x law. law_store m x (λ o s l. law o s l ≡ true)

pub returns-clause-below : goal.returns-clause-below
returns-clause-below g c = λ m x law. below_store m x (λ o s l g. law o s l g ≡ true)
