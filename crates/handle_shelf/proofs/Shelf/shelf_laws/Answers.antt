use Rattle.handle_shelf.proofs.ShelfLemmas.{put_others, put_own}
use Rattle.handle_shelf.proofs.Shelf.shelf_laws.Goals as goal

pub returns-clause-others : goal.returns-clause-others
returns-clause-others g c = λ a s t h k v. put_others a s t h k v

pub returns-clause-own : goal.returns-clause-own
returns-clause-own g c = λ s t h v. put_own s t h v
