-- What is added so far, with what is left to add, is the whole.
use Rattle.std.proofs.Common.{◌≡◌, ◌++◌, map}
use Rattle.layer_tree.specs.LayerItem.{drawn}
use Rattle.layer_tree.specs.View.{item_of}
use Rattle.paint_owner.proofs.whole.push_items.Given as goal

abbrev pub invariant-loop-record : goal.invariant-loop-record
invariant-loop-record l =
    map item_of l.items.items ++ map drawn l.record-iterator.rest.items
    ≡ map item_of l.fn.items.items ++ map drawn l.fn.records.items
