use Rattle.std.proofs.Common.{ap₂, arith, ◌∙◌}
use Rattle.std.specs.Str.{bytes_eq}
use Rattle.script_lines.specs.declared.reading.TheConstants.{LINE_MAX}
use Rattle.frame_run.proofs.LineLemmas.{held_mark}
use Rattle.frame_run.proofs.line.InputLine.is_mark.Goals as goal

pub returns : goal.returns
returns c raw holds =
    c.eq.ensures ∙ ap₂ bytes_eq c.as_slice.ensures.value c.as_slice-2.ensures ∙ held_mark LINE_MAX _ _ _ raw (omega arith) holds
