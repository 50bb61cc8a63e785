-- The members so far, with those of the nodes that are left, are all.
use Rattle.std.proofs.Common.{◌≡◌, ◌++◌, map, drop}
use Rattle.screen_form.specs.Members.{members_in}
use Rattle.hit_testing.proofs.members.hit_members_from.Given as goal

abbrev pub invariant-loop-node : goal.invariant-loop-node
invariant-loop-node g l =
    l.members.items ++ members_in (map g.C.LaidCursor.stands (drop l.node-index l.node-items))
    ≡ members_in (map g.C.LaidCursor.stands l.node-items)
