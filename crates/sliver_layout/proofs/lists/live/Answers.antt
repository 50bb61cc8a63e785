use Rattle.std.proofs.Common.{◌+◌, ◌-◌, ◌<◌, arith}
use Rattle.sliver_layout.specs.Lists.{IsAmong, children_between}
use Rattle.sliver_layout.proofs.Ranges.{among_iff_Meets, between_grows, window_of-some}
use Rattle.sliver_layout.proofs.lists.live.Goals as goal

pub returns-clause-members : goal.returns-clause-members
returns-clause-members c i counted room =
    let b = c.args.b in
    let widen = c.args.widen in
    rw (c.children_between.ensures.value, c.saturating_sub.ensures)
    (among_iff_Meets i (b.offset - widen) (b.offset + b.remaining + widen) c.args.extent c.args.count c.requires
    (omega arith) counted)

pub returns-clause-holds_window : goal.returns-clause-holds_window
returns-clause-holds_window c i among =
    let b = c.args.b in
    let widen = c.args.widen in
    let some : 0 < b.remaining = omega arith in
    let seen : IsAmong (children_between b.offset (b.offset + b.remaining) c.args.extent c.args.count) i =
    rw (window_of-some b c.args.extent c.args.count some) at among in
    rw (c.children_between.ensures.value, c.saturating_sub.ensures)
    (between_grows i b.offset (b.offset + b.remaining) (b.offset - widen) (b.offset + b.remaining + widen)
    c.args.extent c.args.count c.requires (omega arith) (omega arith) (omega arith) seen)
