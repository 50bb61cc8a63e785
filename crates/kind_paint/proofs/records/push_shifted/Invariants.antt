-- What is added so far, with what is left to add, is the whole.
use Rattle.std.proofs.Common.{◌≡◌, ◌++◌, map}
use Rattle.draw_records.specs.Shifted.{shifted}
use Rattle.kind_paint.proofs.records.push_shifted.Given as goal

abbrev pub invariant-loop-record : goal.invariant-loop-record
invariant-loop-record l =
    l.records.items ++ (map (λ r. shifted r l.at) l.record-iterator.rest.items)
    ≡ l.fn.records.items ++ (map (λ r. shifted r l.at) l.fn.drawing.items)
