use Rattle.std.proofs.Common.{None}
use Rattle.build_walk.proofs.Kept.{holds_live, widget_kept, place_kept, kept_node, kept_nodes, kept_past, kept_drawn, kept_below, tops_kept}
use Rattle.build_walk.proofs.old_elements.kept_elements_are_known.Goals as goal

pub returns-clause-live : goal.returns-clause-live
returns-clause-live c = holds_live

pub returns-clause-node : goal.returns-clause-node
returns-clause-node c = λ scrolled t h e holds is.
    kept_node (λ n. None) scrolled t (c.walk_laws.ensures.subtree t) h e holds (c.child_laws.ensures.opened t h e holds is)

pub returns-clause-nodes : goal.returns-clause-nodes
returns-clause-nodes c = λ scrolled t h e holds is.
    kept_nodes (λ n. None) scrolled t (c.walk_laws.ensures.subtree t) h e holds (c.child_laws.ensures.opened t h e holds is) (c.child_laws.ensures.stands t h holds) (c.child_laws.ensures.listed t h holds)

pub returns-clause-past : goal.returns-clause-past
returns-clause-past c = λ pasts scrolled olds t r h e kept is.
    kept_past pasts scrolled t (c.walk_laws.ensures.subtree t) h e kept.holds (c.child_laws.ensures.opened t h e kept.holds is) (c.child_laws.ensures.stands t h kept.holds) (c.child_laws.ensures.listed t h kept.holds) r olds kept

pub returns-clause-drawn : goal.returns-clause-drawn
returns-clause-drawn c = λ pasts scrolled olds t r h e kept is.
    kept_drawn pasts scrolled t (c.walk_laws.ensures.subtree t) h e kept.holds (c.child_laws.ensures.opened t h e kept.holds is) (c.child_laws.ensures.stands t h kept.holds) (c.child_laws.ensures.listed t h kept.holds) r olds kept

pub returns-clause-below : goal.returns-clause-below
returns-clause-below c = λ pasts scrolled olds t r h e kept is.
    kept_below pasts scrolled t (c.walk_laws.ensures.subtree t) h e kept.holds (c.child_laws.ensures.opened t h e kept.holds is) (c.child_laws.ensures.stands t h kept.holds) (c.child_laws.ensures.listed t h kept.holds) r olds kept

pub returns-clause-widget : goal.returns-clause-widget
returns-clause-widget c = λ scrolled t h holds.
    widget_kept scrolled t h holds (λ e is. kept_node (λ n. None) scrolled t (c.walk_laws.ensures.subtree t) h e holds (c.child_laws.ensures.opened t h e holds is))

pub returns-clause-place : goal.returns-clause-place
returns-clause-place c = λ scrolled t h holds.
    place_kept scrolled t h holds (λ e is. kept_node (λ n. None) scrolled t (c.walk_laws.ensures.subtree t) h e holds (c.child_laws.ensures.opened t h e holds is))

pub returns-clause-tops : goal.returns-clause-tops
returns-clause-tops c = λ pasts scrolled defaults t r f is tells drawn. tops_kept pasts scrolled defaults t (c.walk_laws.ensures.subtree t) r f is tells drawn
