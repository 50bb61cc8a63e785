use Rattle.std.proofs.Common.{◌≡◌, true, rules}
use Rattle.program_check.specs.CheckedView.{plain_checked}
use Rattle.worked_calls.proofs.BothBuilds.{begins}
use Rattle.worked_calls.proofs.build_steps.Both.fault.Goals as goal

pub flush-requires-clause-stands : goal.flush-requires-clause-stands
flush-requires-clause-stands g c =
    let s = c.args.self.now in
    begins (plain_checked c.args.checked.now) s.root s.plain s.next s.t.tree s.r.tree s.g c.requires

pub flush-requires-clause-root : goal.flush-requires-clause-root
flush-requires-clause-root g c = c.requires.typed

pub flush-requires-clause-size : goal.flush-requires-clause-size
flush-requires-clause-size g c = c.requires.sized

pub flush-requires-clause-room : goal.flush-requires-clause-room
flush-requires-clause-room g c = let room : c.has_room.result ≡ true = search rules in c.has_room.ensures room
