use Rattle.std.proofs.Common.{◌≡◌, ◌≤◌, ◌++◌, [], ◌∷◌, drop, take, slice_range, vec_len}
use Rattle.draw_records.specs.Quoted.{all_escaped}
use Rattle.draw_records.proofs.quote.push_parts.Given as goal

abbrev pub invariant-loop-at : goal.invariant-loop-at
invariant-loop-at l =
    (l.from ≤ l.at) × ((l.out.items ++ slice_range l.bytes l.from l.at) ++ all_escaped (drop l.at l.bytes) ≡ (l.fn.out.items ++ 34 ∷ []) ++ all_escaped l.bytes)
    × (take (vec_len l.fn.out) l.out.items ≡ l.fn.out.items)
