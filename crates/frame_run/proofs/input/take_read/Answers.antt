use Rattle.std.proofs.Common.{[], sym, append-nil, arith}
use Rattle.frame_run.proofs.ReadLemmas.{ends_stopped, ends_memory, ends_fault}
use Rattle.frame_run.proofs.StatusLemmas.{on_memory}
use Rattle.frame_run.proofs.WorkLemmas.{within_room}
use Rattle.frame_run.proofs.input.take_read.Goals as goal

pub returns-in-Stops-clause-took : goal.returns-in-Stops-clause-took
returns-in-Stops-clause-took g c place raw stands =
    let bytes = c.args.bytes.now in
    ends_stopped c.status.result _ place raw c.args.room bytes bytes [] _ _ c.in-Stops.stop
    (sym (append-nil bytes)) (omega arith) (c.in-Stops.ensures.took place raw stands) c.status.ensures.status

pub returns-in-NoMemory-clause-took : goal.returns-in-NoMemory-clause-took
returns-in-NoMemory-clause-took g c place raw stands =
    let bytes = c.args.bytes.now in
    ends_memory _ place raw c.args.room bytes bytes [] _ _
    (sym (append-nil bytes)) (omega arith) (c.in-NoMemory.ensures.took place raw stands)

pub returns-in-WriteFault-clause-took : goal.returns-in-WriteFault-clause-took
returns-in-WriteFault-clause-took g c place raw stands =
    let bytes = c.args.bytes.now in
    ends_fault _ place raw c.args.room bytes bytes [] _ _
    (sym (append-nil bytes)) (omega arith) (c.in-WriteFault.ensures.took place raw stands)

pub returns-in-Goes-clause-took : goal.returns-in-Goes-clause-took
returns-in-Goes-clause-took g c place raw stands = (omega arith, c.in-Goes.ensures.took place raw stands)

pub returns-in-Stops-clause-work : goal.returns-in-Stops-clause-work
returns-in-Stops-clause-work g c frames place raw stands caused =
    on_memory c.status.result _ (within_room frames place raw c.args.room c.args.bytes.now _ _ _ _ _ _ (omega arith) (c.in-Stops.ensures.work frames place raw stands caused))

pub returns-in-WriteFault-clause-work : goal.returns-in-WriteFault-clause-work
returns-in-WriteFault-clause-work g c frames place raw stands caused =
    within_room frames place raw c.args.room c.args.bytes.now _ _ _ _ _ _ (omega arith) (c.in-WriteFault.ensures.work frames place raw stands caused)
