use Rattle.layout_owner.proofs.laws.items_have_no_part_in_live_ranges.Goals as goal
use Rattle.layout_owner.proofs.Bare.{bare_view, bare_range}

pub returns-clause-views : goal.returns-clause-views
returns-clause-views c = λ s.
    bare_view s (record { lists = c.lists_lie_without_their_items.ensures.lists s; items = c.lists_lie_without_their_items.ensures.items s })

pub returns-clause-ranges : goal.returns-clause-ranges
returns-clause-ranges c = λ s.
    bare_range s (record { lists = c.lists_lie_without_their_items.ensures.lists s; items = c.lists_lie_without_their_items.ensures.items s })
