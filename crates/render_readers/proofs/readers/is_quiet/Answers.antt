use Rattle.render_readers.proofs.Quiet.{nothing_remarked, not_true}
use Rattle.render_readers.proofs.readers.is_quiet.Goals as goal

pub returns : goal.returns
returns c = λ e. nothing_remarked c.args.r.now.tree (c.is_remarked.ensures (not_true c.is_remarked.result e)) c.root.result c.root.ensures.value c.root.ensures.holds
