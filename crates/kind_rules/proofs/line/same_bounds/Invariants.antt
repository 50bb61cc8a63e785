use Rattle.std.proofs.Common.{◌≡◌, ◌≤◌, ◌++◌, map, drop, length, vec_len, vec_capacity}
use Rattle.kind_rules.proofs.line.same_bounds.Given as goal

abbrev pub invariant-loop-i : goal.invariant-loop-i
invariant-loop-i g l =
    let all = g.F.Family.told l.fn.family in record {
      same : l.bounds.items ++ map (λ d. l.inner) (drop l._i all) ≡ map (λ d. l.inner) all;
      count : vec_len l.bounds ≡ l._i;
      room : length all ≤ vec_capacity l.bounds;
    }
