use Rattle.std.proofs.Common.{◌≡◌, ◌≤◌, ◌+◌, ◌++◌, drop, length, vec_len, vec_capacity}
use Rattle.std.specs.Prelude.{sum}
use Rattle.flex_layout.specs.Flex.{shares_after}
use Rattle.layout_form.specs.FlexRule.{factors_of, bounds_by}
use Rattle.kind_rules.proofs.line.shares_out.Given as goal

abbrev pub invariant-loop-i : goal.invariant-loop-i
invariant-loop-i g l =
    let all = g.F.Family.told l.family in
    let left = drop l.i all in record {
      same : l.bounds.items ++ bounds_by l.axis l.cross l.b left (shares_after l.free l.total l.before (factors_of left))
          ≡ bounds_by l.axis l.cross l.b all (shares_after l.free l.total 0 (factors_of all));
      room : l.before + sum (factors_of left) ≡ l.total;
      count : vec_len l.bounds ≡ l.i;
      places : length all ≤ vec_capacity l.bounds;
    }
