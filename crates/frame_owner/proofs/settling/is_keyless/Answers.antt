use Rattle.std.proofs.Common.{[]}
use Rattle.frame_owner.proofs.Keyless.{keyless_where_none}
use Rattle.frame_owner.proofs.settling.is_keyless.Goals as goal

pub returns : goal.returns
returns c = λ p made scrolled t r stands. keyless_where_none p [] made scrolled t r c.args.keys.now c.is_empty.result stands c.is_empty.ensures
