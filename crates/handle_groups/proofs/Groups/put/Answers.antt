use Rattle.std.proofs.Common.{true, ◌≤◌, subst, ℕ, arith}
use Rattle.handle_groups.proofs.Entries.{stands-written, room-found, room-absent}
use Rattle.handle_groups.proofs.Groups.put.Goals as goal

pub put_in-requires : goal.put_in-requires
put_in-requires c =
    let room = rw (← c.self.view_is) at c.requires in
    subst (λ (n : ℕ). 1 ≤ n) (room-found c.self.inside.groups.entries c.args.name.now c.in-Some.set.now c.in-Some.ensures.value) room

pub unreachable-requires : goal.unreachable-requires
unreachable-requires c =
    let room = rw (← c.self.view_is) at c.requires in
    let none = room-absent c.self.inside.groups.entries c.args.name.now c.in-None.ensures.value in
    omega (arith)

pub returns : goal.returns
returns c =
    rw (← c.self.view_is) (λ n k.
    stands-written c.self.inside.groups.entries (c.get_mut.follows.lender c.put_in.new.set).entries c.args.name.now n c.args.h k true c.put_in.new.set c.in-Some.set.now c.in-Some.ensures.value
    (c.get_mut.follows.holds c.put_in.new.set).0 c.put_in.ensures)
