use Rattle.std.proofs.Common.{◌≡◌, ◌++◌, ◌≤◌, drop, length, vec_len, vec_capacity}
use Rattle.wrap_table.specs.Pass.{IsMidway, table_start, table_places_after, table_end}
use Rattle.wrap_table.proofs.table.table_places.Given as goal

-- the places so far and those of the children that are left; there is room for all
abbrev pub invariant-loop-height : goal.invariant-loop-height
invariant-loop-height l =
    let left = drop l.height-index l.heights in
    (l.out.items ++ table_places_after l.widths l.pass left ≡ table_places_after l.widths table_start l.heights)
    × (table_end l.widths l.pass left ≡ table_end l.widths table_start l.heights)
    × IsMidway l.widths l.pass
    × (vec_len l.out ≡ l.height-index)
    × (length l.heights ≤ vec_capacity l.out)
