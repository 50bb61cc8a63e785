use Rattle.std.proofs.Common.{◌≡◌, ◌≤◌, false, length}
use Rattle.script_lines.specs.declared.reading.TheConstants.{LINE_MAX}
use Rattle.frame_run.proofs.LineLemmas.{held_full, kept_whole, settled, must_follow}
use Rattle.frame_run.proofs.line.InputLine.push.Goals as goal

pub returns-then-is_settled-clause-holds : goal.returns-then-is_settled-clause-holds
returns-then-is_settled-clause-holds c raw holds =
    let line = c.args.self.now in
    let short : length line.kept.items ≤ LINE_MAX = c.if-is_full.ensures in
    let nothing : (line.spaces ≡ 0) × (line.has_return ≡ false) = c.is_settled.ensures.0 c.if-is_settled.true in
    c.add.ensures.holds raw
    (settled LINE_MAX line.kept.items line.kept.items line.spaces line.has_return raw short holds
    (kept_whole LINE_MAX line.kept.items line.spaces line.has_return nothing.0 nothing.1))
    (must_follow LINE_MAX line.kept.items line.spaces line.has_return raw c.args.byte short c.if-may_drop.ensures holds)

pub returns-then-is_full-clause-holds : goal.returns-then-is_full-clause-holds
returns-then-is_full-clause-holds c raw holds = held_full LINE_MAX _ _ _ raw c.args.byte c.if-is_full.ensures holds
