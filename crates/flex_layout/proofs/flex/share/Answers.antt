use Rattle.flex_layout.proofs.Shares.{share_near}
use Rattle.flex_layout.proofs.flex.share.Goals as goal

pub returns-clause-not_above : goal.returns-clause-not_above
returns-clause-not_above c =
    let n = c.args in
    rw (c.free_before.ensures.value, c.free_before-2.ensures.value) (share_near n.free n.before n.factor n.total c.requires.some).0

pub returns-clause-not_below : goal.returns-clause-not_below
returns-clause-not_below c =
    let n = c.args in
    rw (c.free_before.ensures.value, c.free_before-2.ensures.value) (share_near n.free n.before n.factor n.total c.requires.some).1
