-- What is added so far, with what is left to add, is the whole.
use Rattle.std.proofs.Common.{◌≡◌, ◌++◌, map}
use Rattle.kept_layers.specs.GroupPart.{record_part}
use Rattle.paint_owner.specs.View.{part_of}
use Rattle.paint_owner.proofs.group.push_records.Given as goal

abbrev pub invariant-loop-record : goal.invariant-loop-record
invariant-loop-record l =
    map part_of l.parts.items ++ map record_part l.record-iterator.rest.items
    ≡ map part_of l.fn.parts.items ++ map record_part l.fn.records.items
