use Rattle.frame_run.proofs.TurnLemmas.{byte_ends, byte_goes}
use Rattle.std.proofs.Common.{ℕ, ◌∷◌, [], sym, subst}
use Rattle.frame_run.proofs.WorkLemmas.{byte_works}
use Rattle.frame_run.specs.Job.{Stands}
use Rattle.frame_run.specs.Works.{IsJobCaused, TurnWorks}
use Rattle.frame_run.proofs.input.take_byte.Goals as goal

pub returns-then-byte-eq10-clause-took : goal.returns-then-byte-eq10-clause-took
returns-then-byte-eq10-clause-took g c place raw stands =
    byte_ends c.end_line.result _ c.args.byte place raw _ _ _ _ c.if-byte-eq10.true (c.end_line.ensures.took place raw stands)

pub returns-in-Ok-clause-took : goal.returns-in-Ok-clause-took
returns-in-Ok-clause-took g c place raw stands =
    byte_goes _ c.args.byte place raw _ _ c.if-byte-eq10.false (c.in-Ok.ensures.stands place raw stands)

pub returns-then-byte-eq10-clause-work : goal.returns-then-byte-eq10-clause-work
returns-then-byte-eq10-clause-work g c frames place raw stands caused =
    let P : ℕ → Type 0 = λ byte. TurnWorks c.end_line.result (Stands c.end_line.new.job (λ v. (g.dyn-1.0.entry v).1)) (IsJobCaused c.end_line.new.job) frames place raw (byte ∷ [])
    c.args.builds.now c.end_line.new.builds c.args.layouts.now c.end_line.new.layouts c.args.paints.now c.end_line.new.paints in
    subst P (sym c.if-byte-eq10.true) (c.end_line.ensures.work frames place raw stands caused)

pub returns-in-Ok-clause-work : goal.returns-in-Ok-clause-work
returns-in-Ok-clause-work g c frames place raw stands caused =
    byte_works _ _ c.args.byte frames place raw _ _ _ c.if-byte-eq10.false (c.in-Ok.ensures.stands place raw stands) (c.in-Ok.ensures.causes frames place caused)
