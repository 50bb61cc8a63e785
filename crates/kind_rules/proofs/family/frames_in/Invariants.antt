use Rattle.std.proofs.Common.{◌≡◌, ◌≤◌, ◌++◌, drop, length, vec_len, vec_capacity}
use Rattle.kind_rules.proofs.family.frames_in.Given as goal

abbrev pub invariant-loop-i : goal.invariant-loop-i
invariant-loop-i g l =
    let all = g.F.Family.frames l.family in record {
      same : l.frames.items ++ drop l.i all ≡ all;
      count : vec_len l.frames ≡ l.i;
      room : length all ≤ vec_capacity l.frames;
    }
