use Rattle.handle_groups.proofs.Entries.{handles-reserved, room-reserved}
use Rattle.handle_groups.proofs.widen.Goals as goal

pub returns-in-Some-clause-same : goal.returns-in-Some-clause-same
returns-in-Some-clause-same c = λ n.
    handles-reserved c.args.groups.now.entries (c.get_mut.follows.lender c.reserve.new.self).entries c.args.name.now n c.reserve.new.self c.in-Some.set.now c.in-Some.ensures.value
    (c.get_mut.follows.holds c.reserve.new.self).0 c.reserve.ensures.keys

pub returns-in-Some-clause-room : goal.returns-in-Some-clause-room
returns-in-Some-clause-room c =
    room-reserved c.reserve.result c.args.groups.now.entries (c.get_mut.follows.lender c.reserve.new.self).entries c.args.name.now c.reserve.new.self c.in-Some.set.now c.in-Some.ensures.value
    (c.get_mut.follows.holds c.reserve.new.self).0 c.reserve.ensures.ok
