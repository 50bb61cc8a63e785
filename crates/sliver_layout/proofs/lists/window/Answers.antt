use Rattle.std.proofs.Common.{◌+◌, arith}
use Rattle.sliver_layout.proofs.Ranges.{among_iff_Meets}
use Rattle.sliver_layout.proofs.lists.window.Goals as goal

pub returns-clause-members : goal.returns-clause-members
returns-clause-members c i counted =
    let b = c.args.b in
    rw c.children_between.ensures.value
    (among_iff_Meets i b.offset (b.offset + b.remaining) c.args.extent c.args.count c.requires (omega arith) counted)
