use Rattle.std.proofs.Common.{false, ap}
use Rattle.handle_groups.proofs.Entries.{stands-written, stands-kept, room-kept, room-same}
use Rattle.handle_groups.proofs.Groups.remove.Goals.{in-Some, in-None}
use Rattle.handle_groups.proofs.Groups.remove.Goals as goal

pub returns-clause-standing : goal.returns-clause-standing
returns-clause-standing c = elim c.match-get_mut.branch [
  | in-Some w ↦
      rw w.self-inside-is (rw (← c.self.view_is) (λ n k.
      stands-written c.self.inside.groups.entries (c.get_mut.follows.lender w.take_from.new.set).entries c.args.name.now n c.args.h k false w.take_from.new.set w.in-Some.set.now w.in-Some.ensures.value
      (c.get_mut.follows.holds w.take_from.new.set).0 w.take_from.ensures.keys))
  | in-None w ↦
      rw w.self-inside-is (rw (← c.self.view_is) (λ n k.
      stands-kept c.self.inside.groups.entries c.get_mut.follows.lender-at-none.entries c.args.name.now n c.args.h k (ap (λ m. m.entries) c.get_mut.follows.holds-at-none) w.in-None.ensures.value))
]

pub returns-clause-room : goal.returns-clause-room
returns-clause-room c = elim c.match-get_mut.branch [
  | in-Some w ↦
      rw w.self-inside-is (rw (← c.self.view_is) (λ n.
      room-kept c.self.inside.groups.entries (c.get_mut.follows.lender w.take_from.new.set).entries c.args.name.now n w.take_from.new.set w.in-Some.set.now w.in-Some.ensures.value
      (c.get_mut.follows.holds w.take_from.new.set).0 w.take_from.ensures.room))
  | in-None w ↦
      rw w.self-inside-is (rw (← c.self.view_is) (λ n.
      room-same c.self.inside.groups.entries c.get_mut.follows.lender-at-none.entries n (ap (λ m. m.entries) c.get_mut.follows.holds-at-none)))
]
