use Rattle.std.proofs.Common.{◌≡◌, ◌<◌, length, take, drop, sym, arith}
use Rattle.std.proofs.lemmas.List.{length-drop, length-take, take-append-drop}
use Rattle.frame_run.proofs.ReadLemmas.{ends_over, ends_stopped, ends_memory, ends_fault}
use Rattle.frame_run.proofs.StatusLemmas.{on_memory}
use Rattle.frame_run.proofs.input.take_front.Goals as goal

pub returns-in-Goes-clause-took : goal.returns-in-Goes-clause-took
returns-in-Goes-clause-took g c place raw stands =
    let bytes = c.args.bytes.now in
    let room = c.args.room in
    let full : length (take room bytes) ≡ room = omega (arith, length-take room bytes) in
    let more : 0 < length (drop room bytes) = omega (arith, length-drop room bytes) in
    let took = c.in-Goes.ensures.took place raw stands in
    ends_over c.over_status.result _ place raw room bytes (take room bytes) (drop room bytes) _ _
    (sym (take-append-drop room bytes)) full more took (c.over_status.ensures.status _ _ took.lands.0)

pub returns-in-Stops-clause-took : goal.returns-in-Stops-clause-took
returns-in-Stops-clause-took g c place raw stands =
    let bytes = c.args.bytes.now in
    let room = c.args.room in
    let full : length (take room bytes) ≡ room = omega (arith, length-take room bytes) in
    ends_stopped c.status.result _ place raw room bytes (take room bytes) (drop room bytes) _ _ c.in-Stops.stop
    (sym (take-append-drop room bytes)) (omega arith) (c.in-Stops.ensures.took place raw stands) c.status.ensures.status

pub returns-in-NoMemory-clause-took : goal.returns-in-NoMemory-clause-took
returns-in-NoMemory-clause-took g c place raw stands =
    let bytes = c.args.bytes.now in
    let room = c.args.room in
    let full : length (take room bytes) ≡ room = omega (arith, length-take room bytes) in
    ends_memory _ place raw room bytes (take room bytes) (drop room bytes) _ _
    (sym (take-append-drop room bytes)) (omega arith) (c.in-NoMemory.ensures.took place raw stands)

pub returns-in-WriteFault-clause-took : goal.returns-in-WriteFault-clause-took
returns-in-WriteFault-clause-took g c place raw stands =
    let bytes = c.args.bytes.now in
    let room = c.args.room in
    let full : length (take room bytes) ≡ room = omega (arith, length-take room bytes) in
    ends_fault _ place raw room bytes (take room bytes) (drop room bytes) _ _
    (sym (take-append-drop room bytes)) (omega arith) (c.in-WriteFault.ensures.took place raw stands)

pub returns-in-Goes-clause-work : goal.returns-in-Goes-clause-work
returns-in-Goes-clause-work g c frames place raw stands caused = on_memory c.over_status.result _ (c.in-Goes.ensures.work frames place raw stands caused).within

pub returns-in-Stops-clause-work : goal.returns-in-Stops-clause-work
returns-in-Stops-clause-work g c frames place raw stands caused = on_memory c.status.result _ (c.in-Stops.ensures.work frames place raw stands caused)
