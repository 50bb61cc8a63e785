use Rattle.std.proofs.Common.{◌≡◌, ◌++◌, ◌≤◌, drop, length, vec_len, vec_capacity}
use Rattle.wrap_table.specs.Pass.{IsInRange, wrap_start, wrap_places_after, wrap_end}
use Rattle.wrap_table.proofs.wrap.wrap_places.Given as goal

-- the places so far and those of the children that are left; there is room for all
abbrev pub invariant-loop-size : goal.invariant-loop-size
invariant-loop-size l =
    let left = drop l.size-index l.sizes in
    (l.out.items ++ wrap_places_after l.rule l.pass left ≡ wrap_places_after l.rule wrap_start l.sizes)
    × (wrap_end l.rule l.pass left ≡ wrap_end l.rule wrap_start l.sizes)
    × IsInRange l.pass.top
    × (vec_len l.out ≡ l.size-index)
    × (length l.sizes ≤ vec_capacity l.out)
