use Rattle.std.proofs.Common.{◌≡◌, false, true, rules}
use Rattle.program_check.specs.CheckedView.{plain_checked}
use Rattle.worked_calls.proofs.BothBuilds.{begins, both_built, unmoved}
use Rattle.worked_calls.proofs.build_steps.Both.follow.Goals as goal

pub flush-requires-clause-stands : goal.flush-requires-clause-stands
flush-requires-clause-stands g c =
    let s = c.args.self.now in
    begins (plain_checked c.args.checked.now) s.root s.plain s.next s.t.tree s.r.tree s.g c.requires.both

pub flush-requires-clause-root : goal.flush-requires-clause-root
flush-requires-clause-root g c = c.requires.both.typed

pub flush-requires-clause-size : goal.flush-requires-clause-size
flush-requires-clause-size g c = c.requires.both.sized

pub flush-requires-clause-room : goal.flush-requires-clause-room
flush-requires-clause-room g c = let room : c.has_room.result ≡ true = search rules in c.has_room.ensures room

pub flush_items-requires : goal.flush_items-requires
flush_items-requires g c = let settled : c.waits.result ≡ false = search rules in record { phase = λ waits. absurd (waits (c.waits.ensures.none settled)) }

pub returns : goal.returns
returns g c =
    let s = c.args.self.now in
    let p = plain_checked c.args.checked.now in
    let settled : c.waits.result ≡ false = search rules in
    let none = c.waits.ensures.none settled in
    let same = c.flush_items.ensures.nothing none in
    let t = c.flush.new.t.tree in
    let r = c.flush.new.r.tree in
    let g1 = c.flush.new.g in
    let whole = c.in_ok-lazy.ensures.whole none (begins p s.root s.plain s.next s.t.tree s.r.tree s.g c.requires.both) c.requires.built.0 in
    unmoved p s.root _ c.args.built.next c.flush.new.t c.flush_items.new.t c.flush.new.r c.flush_items.new.r g1 c.flush_items.new.g same.1 same.2 same.3
    (both_built p s.root s.plain s.next s.t.tree s.r.tree s.g c.requires.both c.requires.built.0 c.args.built.root c.args.built.next s.r.tree t r g1 c.requires.built.1 whole)
