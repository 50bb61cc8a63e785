use Rattle.element_tree.specs.Element.{element_at}
use Rattle.render_tree.specs.Tree.{object_at}
use Rattle.build_walk.specs.Merging.{lists_redraw}
use Rattle.build_walk.specs.Renewing.{drawn}
use Rattle.build_walk.proofs.Items.{all_go_on, all_drawn, all_stored, drawn_tops, handles_renewed, listed_handles}
use Rattle.build_walk.proofs.Merging.{bare_drawn}
use Rattle.build_walk.proofs.second.grown_forests_go_on.Goals as goal

pub returns-clause-elements : goal.returns-clause-elements
returns-clause-elements c = λ t f gs a all. all_go_on (element_at t) f gs a all

pub returns-clause-objects : goal.returns-clause-objects
returns-clause-objects c = λ t scrolled f gs a all. all_drawn (object_at t) scrolled f gs a all

pub returns-clause-outputs : goal.returns-clause-outputs
returns-clause-outputs c = λ scrolled f gs a all. all_stored scrolled f gs a all

pub returns-clause-tops : goal.returns-clause-tops
returns-clause-tops c = λ t scrolled above told f gs a. drawn_tops (object_at t) scrolled above told f gs a

pub returns-clause-handles : goal.returns-clause-handles
returns-clause-handles c = handles_renewed

pub returns-clause-drawn_handles : goal.returns-clause-drawn_handles
returns-clause-drawn_handles c = λ p above told f bare. listed_handles lists_redraw p (drawn above told f) (bare_drawn above told f bare)
