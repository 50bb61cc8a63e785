use Rattle.std.proofs.Common.{ap, ◌∙◌}
use Rattle.build_form.specs.Lent.{lent}
use Rattle.plain_build.proofs.Holding.{looked_up}
use Rattle.plain_build.proofs.holders.holder_of.Goals as goal

pub returns : goal.returns
returns c = ap lent (c.copied.ensures ∙ c.get.ensures.value ∙ looked_up c.args.key.now c.args.holders.now.entries)
