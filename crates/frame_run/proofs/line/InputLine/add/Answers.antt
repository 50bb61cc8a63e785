use Rattle.script_lines.specs.declared.reading.TheConstants.{LINE_MAX}
use Rattle.frame_run.proofs.LineLemmas.{capped_full}
use Rattle.frame_run.proofs.line.InputLine.add.Goals as goal

pub returns-then-is_full-clause-holds : goal.returns-then-is_full-clause-holds
returns-then-is_full-clause-holds c raw capped follows = capped_full LINE_MAX _ _ _ raw c.args.byte c.if-is_full.ensures capped follows
