use Rattle.program_check.specs.CheckedView.{plain_checked}
use Rattle.frame_run.proofs.ProgramLemmas.{version_kept}
use Rattle.frame_run.proofs.program.read_checked.Goals as goal

pub returns-clause-version : goal.returns-clause-version
returns-clause-version c =
    version_kept plain_checked c.checked.result _
    (λ x e. c.programs_keep_to_their_version.ensures.checked _ x (c.programs_keep_to_their_version.ensures.written _ _ c.in_ok-program.ensures.ok) e)
    c.checked.ensures.ok
