use Rattle.paint_owner.proofs.boundary_shelf.BoundaryShelf.keep_live.Goals as goal

pub invariant_of-self : goal.invariant_of-self
invariant_of-self g c = c.keep_listed.ensures.listed
