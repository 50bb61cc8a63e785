use Rattle.std.proofs.Common.{◌≡◌, ◌++◌, map, drop, ℕ}
use Rattle.layout_form.specs.SliverRule.{is_among}
use Rattle.layout_form.specs.Protocol.{ask_if}
use Rattle.kind_rules.proofs.slivers.items_first.Given as goal

abbrev pub invariant-loop-i : goal.invariant-loop-i
invariant-loop-i l = l.asks.items ++ map (λ (n : ℕ). ask_if (is_among l.seen n) l.ask) (drop l.i-index l.indices) ≡ map (λ (n : ℕ). ask_if (is_among l.seen n) l.ask) l.indices
