use Rattle.std.proofs.Common.{refl}
use Rattle.session_form.specs.State.{first_state}
use Rattle.work_sets.specs.Work.{before}
use Rattle.counted_work.specs.Known.{no_frames}
use Rattle.counted_work.proofs.Beginning.{begins}
use Rattle.counted_work.proofs.sessions.sessions_begin_with_causes.Goals as goal

pub returns : goal.returns
returns c = λ program delegates t objects renders.
    begins program delegates t (c.screens_keep_causes.ensures.starts (before no_frames (first_state program delegates)) t objects renders refl)
