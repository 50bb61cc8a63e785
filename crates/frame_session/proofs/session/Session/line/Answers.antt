use Rattle.frame_session.proofs.StandsLemmas.{not_true}
use Rattle.frame_session.proofs.FaultLemmas.{faultless_by, end_faultless}
use Rattle.frame_session.proofs.MemoryLemmas.{refused_exactly}
use Rattle.frame_session.proofs.WorkLemmas.{goes_versioned}
use Rattle.session_form.specs.Step.{step}
use Rattle.frame_session.proofs.session.Session.line.Goals as goal

pub returns-clause-refused : goal.returns-clause-refused
returns-clause-refused g c s why small h =
    refused_exactly c.line.result (step s c.args.command.now) why small (c.line.ensures.end s h.0 h.2) (c.line.ensures.memory s h.0 h.2)

pub line-requires-clause-right : goal.line-requires-clause-right
line-requires-clause-right g c = λ spent.
    let tree = (c.requires.holds spent (not_true _ c.requires.going)).1.tree in
    (tree.right, tree.still)

pub line-requires-clause-going : goal.line-requires-clause-going
line-requires-clause-going g c = not_true _ c.requires.going

pub returns-clause-work : goal.returns-clause-work
returns-clause-work g c frames s h known =
    goes_versioned c.line.result frames s c.args.command.now _ _ _ _ _ (c.states_keep_to_their_version.ensures.steps s c.args.command.now known.versions)
    (c.line.ensures.work frames s h.0 h.2 known.versions known.work)

pub returns-clause-faultless : goal.returns-clause-faultless
returns-clause-faultless g c none =
    faultless_by c.line.result c.args.self.now.kept.spent c.line.ensures.stays_spent
    (λ fresh.
    let held = c.requires.holds fresh (not_true _ c.requires.going) in
    end_faultless c.line.result held.0 c.args.command.now none (c.line.ensures.end held.0 fresh held.1))
