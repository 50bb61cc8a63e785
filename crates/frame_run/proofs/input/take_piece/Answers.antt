use Rattle.std.proofs.Common.{refl}
use Rattle.frame_run.proofs.TurnLemmas.{turn_written, turn_memory, turn_fault, took_as}
use Rattle.frame_run.proofs.WorkLemmas.{works_fault}
use Rattle.frame_run.proofs.input.take_piece.Goals as goal

pub returns-in-Whole-clause-took : goal.returns-in-Whole-clause-took
returns-in-Whole-clause-took g c place raw stands =
    turn_written c.gather_piece-turn.result _ _ _ _ _ _ c.new-gathered.result.text.items c.gather_piece-turn.new.gathered.text.items _
    c.new-gathered.ensures (c.gather_piece-turn.ensures.took place raw stands) (c.in-Whole.ensures.whole refl)

pub returns-in-NoMemory-clause-took : goal.returns-in-NoMemory-clause-took
returns-in-NoMemory-clause-took g c place raw stands =
    turn_memory c.gather_piece-turn.result _ _ _ _ _ _ c.new-gathered.result.text.items c.gather_piece-turn.new.gathered.text.items _
    c.new-gathered.ensures (c.gather_piece-turn.ensures.took place raw stands) c.write.ensures.part

pub returns-clause-took : goal.returns-clause-took
returns-clause-took g c place raw stands =
    took_as c.at_fault.result _ _ _ _ _ _ _ c.at_fault.ensures
    (turn_fault c.gather_piece-turn.result _ _ _ _ _ _ c.new-gathered.result.text.items c.gather_piece-turn.new.gathered.text.items _
    c.new-gathered.ensures (c.gather_piece-turn.ensures.took place raw stands) c.write.ensures.part)

pub returns-clause-work : goal.returns-clause-work
returns-clause-work g c frames place raw stands caused =
    works_fault c.at_fault.result c.gather_piece-turn.result _ _ frames place raw c.args.piece.now _ _ _ _ _ _ c.at_fault.ensures
    (c.gather_piece-turn.ensures.work frames place raw stands caused)
