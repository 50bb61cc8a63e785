use Rattle.std.proofs.Common.{◌≡◌, ◌++◌, drop, ◌≤◌, length, vec_len, vec_capacity}
use Rattle.layout_form.specs.Framed.{last_asks}
use Rattle.kind_rules.specs.Few.{items_of}
use Rattle.layout_rules.specs.Reads.{frames_at}
use Rattle.layout_rules.proofs.reading.frames_each.Given as goal

abbrev pub invariant-loop-i : goal.invariant-loop-i
invariant-loop-i l =
    let asks = last_asks (items_of l.first) (items_of l.rest) in record {
      same : l.frames.items ++ frames_at l.r.tree (drop l.i asks) (drop l.i l.children) ≡ frames_at l.r.tree asks l.children;
      count : vec_len l.frames ≡ l.i;
      room : length l.children ≤ vec_capacity l.frames;
    }
