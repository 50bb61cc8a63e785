use Rattle.std.proofs.Common.{◌≡◌, ◌≤◌, ◌++◌, ℕ, List, map, drop, length, vec_len, vec_capacity}
use Rattle.plain_tree.specs.declared.render.ParentData.{ParentData}
use Rattle.layout_form.specs.SliverRule.{is_among, counted}
use Rattle.layout_form.specs.Protocol.{ask_if}
use Rattle.layout_rules.proofs.fixed.items_asked.Given as goal

abbrev pub invariant-loop-i : goal.invariant-loop-i
invariant-loop-i l = record {
  same : (ds : List ParentData) → length ds ≡ l.count
      → l.asks.items ++ map (λ (n : ℕ). ask_if (is_among l.seen n) l.ask) (counted l.i (drop l.i ds)) ≡ map (λ (n : ℕ). ask_if (is_among l.seen n) l.ask) (counted 0 ds);
  count : vec_len l.asks ≤ l.i;
  room : l.count ≤ vec_capacity l.asks;
}
