use Rattle.counted_work.proofs.Quiet.{quiet_known, quiet_frames}
use Rattle.counted_work.proofs.Touched.{LineLaws, scroll_known, delegate_known, unplug_known}
use Rattle.counted_work.proofs.sessions.lines_keep_causes.Goals as goal

pub returns-clause-quiet : goal.returns-clause-quiet
returns-clause-quiet c = quiet_known c.fields_leave_the_projection.ensures

pub returns-clause-frames : goal.returns-clause-frames
returns-clause-frames c = quiet_frames c.fields_leave_the_projection.ensures

pub returns-clause-scrolls : goal.returns-clause-scrolls
returns-clause-scrolls c = λ frames s number by old new goes drawn h.
    let laws : LineLaws = record {
      scrolls = c.screens_keep_causes.ensures.scrolls;
      scrolls_paints = c.screens_keep_causes.ensures.scrolls_paints;
      scrolls_asked = c.screens_keep_causes.ensures.scrolls_asked;
      users = c.screens_keep_causes.ensures.users;
      users_paints = c.screens_keep_causes.ensures.users_paints;
      users_asked = c.screens_keep_causes.ensures.users_asked;
    } in scroll_known laws frames s old new h number by drawn goes

pub returns-clause-delegates : goal.returns-clause-delegates
returns-clause-delegates c = λ frames s name field n old new goes drawn h.
    let laws : LineLaws = record {
      scrolls = c.screens_keep_causes.ensures.scrolls;
      scrolls_paints = c.screens_keep_causes.ensures.scrolls_paints;
      scrolls_asked = c.screens_keep_causes.ensures.scrolls_asked;
      users = c.screens_keep_causes.ensures.users;
      users_paints = c.screens_keep_causes.ensures.users_paints;
      users_asked = c.screens_keep_causes.ensures.users_asked;
    } in delegate_known laws frames s old new h name field n drawn goes

pub returns-clause-unplugs : goal.returns-clause-unplugs
returns-clause-unplugs c = λ frames s name old new goes drawn h.
    let laws : LineLaws = record {
      scrolls = c.screens_keep_causes.ensures.scrolls;
      scrolls_paints = c.screens_keep_causes.ensures.scrolls_paints;
      scrolls_asked = c.screens_keep_causes.ensures.scrolls_asked;
      users = c.screens_keep_causes.ensures.users;
      users_paints = c.screens_keep_causes.ensures.users_paints;
      users_asked = c.screens_keep_causes.ensures.users_asked;
    } in unplug_known laws frames s old new h name drawn goes
