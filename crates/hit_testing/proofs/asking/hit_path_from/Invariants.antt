-- The numbers so far, with those of the nodes that are left, are all.
use Rattle.std.proofs.Common.{◌≡◌, ◌++◌, map, drop}
use Rattle.screen_form.specs.Hits.{number_of}
use Rattle.hit_testing.proofs.asking.hit_path_from.Given as goal

abbrev pub invariant-loop-node : goal.invariant-loop-node
invariant-loop-node g l =
    l.numbers.items ++ map number_of (map g.C.LaidCursor.stands (drop l.node-index l.node-items))
    ≡ map number_of (map g.C.LaidCursor.stands l.node-items)
