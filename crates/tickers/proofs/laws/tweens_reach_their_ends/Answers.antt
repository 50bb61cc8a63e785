use Rattle.std.proofs.Common.{◌≡◌, ap, ◌∙◌, ◌-◌, ◌≤◌, min, arith}
use Rattle.tickers.specs.Tween.{value_along}
use Rattle.tickers.proofs.Ways.{value_first, value_last, value_between}
use Rattle.tickers.proofs.laws.tweens_reach_their_ends.Goals as goal

pub returns-clause-first : goal.returns-clause-first
returns-clause-first c t in_range =
    let over : min (t.start - t.start) t.ms ≡ 0 = omega arith in
    ap (λ o. value_along t.curve t.from t.to o t.ms) over ∙ value_first t.curve t.from t.to t.ms in_range.some

pub returns-clause-last : goal.returns-clause-last
returns-clause-last c t now in_range ended =
    let over : min (now - t.start) t.ms ≡ t.ms = omega arith in
    ap (λ o. value_along t.curve t.from t.to o t.ms) over ∙ value_last t.curve t.from t.to t.ms in_range.some

pub returns-clause-between : goal.returns-clause-between
returns-clause-between c t now in_range started =
    let over : min (now - t.start) t.ms ≤ t.ms = omega arith in
    value_between t.curve t.from t.to (min (now - t.start) t.ms) t.ms in_range.some over
