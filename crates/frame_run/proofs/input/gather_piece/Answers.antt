use Rattle.std.proofs.Common.{◌+◌, drop, get_or, refl, arith}
use Rattle.frame_run.proofs.TurnLemmas.{midway_at, midway_goes, midway_stops, midway_memory, midway_fault, midway_all}
use Rattle.frame_run.proofs.WorkLemmas.{works_next, within_piece, works_whole}
use Rattle.frame_run.proofs.input.gather_piece.Goals as goal

pub returns-in-Stops-clause-took : goal.returns-in-Stops-clause-took
returns-in-Stops-clause-took g c place raw stands =
    let xs = c.args.piece.now in
    let i = c.loop-byte.byte-index in
    midway_stops _ _ (get_or xs i 0) (drop (i + 1) xs) _ _ _ _ _ _ _ _ _ c.in-Stops.stop
    (midway_at _ xs i _ _ _ _ _ _ c.loop-byte-test.true (c.loop-byte.invariant.midway place raw stands)) c.in-Stops.ensures.took

pub returns-in-NoMemory-clause-took : goal.returns-in-NoMemory-clause-took
returns-in-NoMemory-clause-took g c place raw stands =
    let xs = c.args.piece.now in
    let i = c.loop-byte.byte-index in
    midway_memory _ _ (get_or xs i 0) (drop (i + 1) xs) _ _ _ _ _ _ _ _ _
    (midway_at _ xs i _ _ _ _ _ _ c.loop-byte-test.true (c.loop-byte.invariant.midway place raw stands)) c.in-NoMemory.ensures.took

pub returns-in-WriteFault-clause-took : goal.returns-in-WriteFault-clause-took
returns-in-WriteFault-clause-took g c place raw stands =
    let xs = c.args.piece.now in
    let i = c.loop-byte.byte-index in
    midway_fault _ _ (get_or xs i 0) (drop (i + 1) xs) _ _ _ _ _ _ _ _ _
    (midway_at _ xs i _ _ _ _ _ _ c.loop-byte-test.true (c.loop-byte.invariant.midway place raw stands)) c.in-WriteFault.ensures.took

pub loop-byte-preserved : goal.loop-byte-preserved
loop-byte-preserved g c =
    let xs = c.args.piece.now in
    let i = c.loop-byte.byte-index in
    record {
      midway = λ place raw stands. midway_goes _ _ (get_or xs i 0) (drop (i + 1) xs) _ _ _ _ _ _ _ _
          (midway_at _ xs i _ _ _ _ _ _ c.loop-byte-test.true (c.loop-byte.invariant.midway place raw stands)) c.in-Goes.ensures.took;
      work = λ frames place raw stands caused.
          let so_far = c.loop-byte.invariant.work frames place raw stands caused in
          works_next _ _ frames place raw xs i _ _ _ _ _ _ _ _ _ c.loop-byte-test.true so_far.within (c.in-Goes.ensures.work _ _ _ so_far.stands so_far.caused);
      counted = omega (arith, c.in-Goes.ensures.counted refl, c.loop-byte.invariant.counted);
      later = omega arith;
    }

pub returns-clause-took : goal.returns-clause-took
returns-clause-took g c place raw stands =
    let xs = c.args.piece.now in
    let i = c.loop-byte.byte-index in
    midway_all _ xs i _ _ _ _ _ _ _ (omega arith) (c.loop-byte.invariant.midway place raw stands)

pub take_byte-requires-clause-holds : goal.take_byte-requires-clause-holds
take_byte-requires-clause-holds g c =
    let here = c.requires.holds in
    let m = c.loop-byte.invariant.midway here.0 here.1 here.2 in
    (m.now, m.raw_now, m.stands)

pub returns-in-Stops-clause-work : goal.returns-in-Stops-clause-work
returns-in-Stops-clause-work g c frames place raw stands caused =
    let xs = c.args.piece.now in
    let i = c.loop-byte.byte-index in
    let so_far = c.loop-byte.invariant.work frames place raw stands caused in
    within_piece frames place raw xs i _ _ _ _ _ _ _ _ _ c.loop-byte-test.true so_far.within (c.in-Stops.ensures.work _ _ _ so_far.stands so_far.caused)

pub returns-in-WriteFault-clause-work : goal.returns-in-WriteFault-clause-work
returns-in-WriteFault-clause-work g c frames place raw stands caused =
    let xs = c.args.piece.now in
    let i = c.loop-byte.byte-index in
    let so_far = c.loop-byte.invariant.work frames place raw stands caused in
    within_piece frames place raw xs i _ _ _ _ _ _ _ _ _ c.loop-byte-test.true so_far.within (c.in-WriteFault.ensures.work _ _ _ so_far.stands so_far.caused)

pub returns-clause-work : goal.returns-clause-work
returns-clause-work g c frames place raw stands caused =
    works_whole _ _ frames place raw c.args.piece.now c.loop-byte.byte-index _ _ _ _ _ _ (omega arith) (c.loop-byte.invariant.work frames place raw stands caused)
