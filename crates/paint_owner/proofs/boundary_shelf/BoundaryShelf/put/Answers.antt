use Rattle.paint_owner.proofs.boundary_shelf.BoundaryShelf.put.Goals as goal

pub invariant_of-self : goal.invariant_of-self
invariant_of-self g c = c.put_listed.ensures.listed
