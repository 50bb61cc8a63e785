use Rattle.element_tree.specs.Element.{element_at}
use Rattle.render_tree.specs.Tree.{object_at}
use Rattle.build_walk.specs.Merging.{lists_element, lists_redraw}
use Rattle.build_walk.proofs.Siblings.{renewals_append, drawn_append, nodes_append, lists_append, handles_append, go_on_append, drawn_both, go_on_later, drawn_later}
use Rattle.build_walk.proofs.laws.forests_are_walked_in_turn.Goals as goal

pub returns-clause-renewals : goal.returns-clause-renewals
returns-clause-renewals c = renewals_append

pub returns-clause-drawn : goal.returns-clause-drawn
returns-clause-drawn c = drawn_append

pub returns-clause-nodes : goal.returns-clause-nodes
returns-clause-nodes c = nodes_append

pub returns-clause-lists : goal.returns-clause-lists
returns-clause-lists c = lists_append

pub returns-clause-handles : goal.returns-clause-handles
returns-clause-handles c = handles_append lists_element

pub returns-clause-drawn_handles : goal.returns-clause-drawn_handles
returns-clause-drawn_handles c = handles_append lists_redraw

pub returns-clause-elements : goal.returns-clause-elements
returns-clause-elements c = λ t f g a b. go_on_append (element_at t) f g a b

pub returns-clause-objects : goal.returns-clause-objects
returns-clause-objects c = λ t scrolled f g a b. drawn_both (object_at t) scrolled f g a b

pub returns-clause-later_elements : goal.returns-clause-later_elements
returns-clause-later_elements c = λ old new f keeps a.
    go_on_later (element_at old) (element_at new) (λ h e is. c.keep_laws.ensures.value old new h e keeps is) f a

pub returns-clause-later_objects : goal.returns-clause-later_objects
returns-clause-later_objects c = λ old new scrolled f keeps a.
    drawn_later (object_at old) (object_at new) scrolled (λ h o is. c.keep_laws-2.ensures.value old new h o keeps is) f a
