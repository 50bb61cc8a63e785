use Rattle.script_lines.specs.declared.reading.TheConstants.{LINE_MAX}
use Rattle.frame_run.proofs.LineLemmas.{settled, must_follow}
use Rattle.frame_run.proofs.line.InputLine.settle_and_add.Goals as goal

pub returns-clause-holds : goal.returns-clause-holds
returns-clause-holds c raw holds =
    let line = c.args.self.now in
    c.add.ensures.holds raw
    (settled LINE_MAX line.kept.items c.settle.new.self.kept.items line.spaces line.has_return raw c.requires.short holds c.in_ok-settle.ensures.kept)
    (must_follow LINE_MAX line.kept.items line.spaces line.has_return raw c.args.byte c.requires.short c.requires.must_keep holds)
