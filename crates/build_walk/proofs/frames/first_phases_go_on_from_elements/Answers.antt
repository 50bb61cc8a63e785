use Rattle.std.proofs.Common.{[], ◌+◌, refl, arith}
use Rattle.build_form.specs.Entering.{depth_limit, first}
use Rattle.build_form.specs.FullBuild.{started, basis}
use Rattle.build_form.specs.Partner.{root_arrival}
use Rattle.build_form.specs.Program.{blueprint_of}
use Rattle.build_form.proofs.Started.{root_too_large, first_fails}
use Rattle.element_tree.specs.Element.{made_count}
use Rattle.build_walk.specs.Standing.{pasts_from}
use Rattle.build_walk.proofs.Arriving.{holders_known, root_known}
use Rattle.build_walk.proofs.Phases.{old_known, entered_none, entered_stopped, built_first, entered_first}
use Rattle.build_walk.proofs.frames.first_phases_go_on_from_elements.Goals as goal

pub returns-clause-same : goal.returns-clause-same
returns-clause-same c = λ p marks old scrolled t w checked s.
    let b = blueprint_of p in
    let pasts = pasts_from p s.forest in
    let known = old_known p marks old scrolled t s (c.standing_elements_are_known.ensures.known p marks old scrolled t checked s) in
    c.walks_keep_what_is_right.ensures.enters (basis b old) pasts first depth_limit b.defaults (root_arrival old w) (started (made_count t + 1)) (holders_known b pasts old known) (root_known b pasts old w known) tt refl

pub returns-clause-builds : goal.returns-clause-builds
returns-clause-builds c = λ p marks old scrolled t w checked s.
    let b = blueprint_of p in
    let pasts = pasts_from p s.forest in
    let known = old_known p marks old scrolled t s (c.standing_elements_are_known.ensures.known p marks old scrolled t checked s) in
    c.walks_build_what_changed.ensures.enters (basis b old) pasts old marks (made_count t + 1) first depth_limit [] b.defaults (root_arrival old w) (started (made_count t + 1)) (holders_known b pasts old known)
    (c.standing_elements_are_known.ensures.entered p marks old scrolled t s) (root_known b pasts old w known) tt (omega arith) refl

pub returns-clause-large : goal.returns-clause-large
returns-clause-large c = λ b screen old next w large. (root_too_large b screen old next w large, entered_none b screen old next w large)

pub returns-clause-fault : goal.returns-clause-fault
returns-clause-fault c = λ b screen old next w f small stopped. (first_fails b screen old next w f small stopped, entered_stopped b screen old next w f small stopped)

pub returns-clause-whole : goal.returns-clause-whole
returns-clause-whole c = λ b screen old next w n s small done waits.
    (built_first b screen old next w n s small done waits, entered_first b screen old next w n s small done waits)
