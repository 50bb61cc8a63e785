use Rattle.std.proofs.Common.{◌∙◌, [], ◌++◌, ap, refl}
use Rattle.frame_run.specs.Text.{line_text}
use Rattle.frame_run.proofs.TurnLemmas.{line_goes, line_stops, line_memory, line_fault, line_none}
use Rattle.frame_run.proofs.WorkLemmas.{line_works}
use Rattle.frame_run.proofs.input.end_line.Goals as goal

pub returns-in_default-clause-took : goal.returns-in_default-clause-took
returns-in_default-clause-took g c place raw stands = line_none _ _ _ _ _ (line_text place raw)

pub returns-in-None-clause-took : goal.returns-in-None-clause-took
returns-in-None-clause-took g c place raw stands =
    line_goes _ _ [] _ _ _ _ (line_text place raw) c.end_line.new.out.items (c.in-Ok.ensures.stands place raw stands)
    (c.in-Ok.ensures.text place raw stands ∙ ap (λ t. t ++ line_text place raw) c.clear.ensures.items) (c.in-Whole.ensures.whole refl)

pub returns-in-None-clause-work : goal.returns-in-None-clause-work
returns-in-None-clause-work g c frames place raw stands caused =
    line_works _ _ frames place raw _ _ _ _ _ _ (c.in-Ok.ensures.stands place raw stands) (c.in-Ok.ensures.work frames place raw stands caused)

pub returns-in-Some-clause-took : goal.returns-in-Some-clause-took
returns-in-Some-clause-took g c place raw stands =
    line_stops _ _ [] _ _ _ _ (line_text place raw) c.end_line.new.out.items c.in-Some.stop
    (c.in-Some.ensures.stopped _ _ (c.in-Ok.ensures.stands place raw stands).0)
    (c.in-Ok.ensures.text place raw stands ∙ ap (λ t. t ++ line_text place raw) c.clear.ensures.items) (c.in-Whole.ensures.whole refl)

pub returns-in-NoMemory-clause-took : goal.returns-in-NoMemory-clause-took
returns-in-NoMemory-clause-took g c place raw stands =
    line_memory _ _ _ _ _ _ _ (line_text place raw) c.end_line.new.out.items
    (c.in-Ok.ensures.text place raw stands ∙ ap (λ t. t ++ line_text place raw) c.clear.ensures.items) (c.in-NoMemory.ensures.text (λ e. cc)) c.in-NoMemory.ensures.part

pub returns-in-Failed-clause-took : goal.returns-in-Failed-clause-took
returns-in-Failed-clause-took g c place raw stands =
    line_fault _ _ _ _ _ _ _ (line_text place raw) c.end_line.new.out.items
    (c.in-Ok.ensures.text place raw stands ∙ ap (λ t. t ++ line_text place raw) c.clear.ensures.items) (c.in-Failed.ensures.text (λ e. cc)) c.in-Failed.ensures.part
