use Rattle.std.proofs.Common.{◌≡◌, ◌++◌}
use Rattle.json_tree.proofs.lists.in_order.Given as goal

abbrev pub invariant-loop-member : goal.invariant-loop-member
invariant-loop-member l = l.fn.members.entries ≡ l.list.items ++ l.member-iterator
