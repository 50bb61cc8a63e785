use Rattle.std.proofs.Common.{◌≡◌, ◌∙◌, ◌==◌, length, vec_len, ap, arith}
use Rattle.script_lines.specs.declared.reading.TheConstants.{LINE_MAX}
use Rattle.frame_run.proofs.LineLemmas.{held_blank}
use Rattle.frame_run.proofs.line.InputLine.is_blank.Goals as goal

pub returns : goal.returns
returns c raw holds =
    let kept = c.args.self.now.kept in
    let len : vec_len kept ≡ length kept.items = omega (arith, kept.ok.0) in
    c.is_empty.ensures ∙ ap (λ n. n == 0) len ∙ held_blank LINE_MAX kept.items _ _ raw holds
