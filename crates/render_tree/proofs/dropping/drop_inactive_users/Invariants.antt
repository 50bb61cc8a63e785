use Rattle.std.proofs.Common.{take}
use Rattle.render_tree.specs.Users.{Drops, is_at_or_below}
use Rattle.render_tree.proofs.dropping.drop_inactive_users.Given as goal

-- the users at and below the first tops are gone
abbrev pub invariant-loop-top : goal.invariant-loop-top
invariant-loop-top l = Drops l.tree (is_at_or_below l.tree (take l.top-index l.tree.inactive)) l.fn.users l.users
