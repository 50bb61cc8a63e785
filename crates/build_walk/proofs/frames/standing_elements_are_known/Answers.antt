use Rattle.std.proofs.Common.{◌+◌}
use Rattle.build_form.specs.Program.{blueprint_of}
use Rattle.element_tree.specs.Element.{made_count}
use Rattle.build_walk.specs.Standing.{pasts_from}
use Rattle.build_walk.proofs.Standing.{numbers_apart, all_built, element_found, built_found, placed_found, names_found, output_found, live_element}
use Rattle.build_walk.proofs.frames.standing_elements_are_known.Goals as goal

pub returns-clause-tells : goal.returns-clause-tells
returns-clause-tells c = λ p marks old scrolled t s. c.elements_have_pasts.ensures.tells (blueprint_of p).defaults scrolled s.forest (numbers_apart p marks old scrolled t s)

pub returns-clause-known : goal.returns-clause-known
returns-clause-known c = λ p marks old scrolled t checked s.
    c.elements_tell_the_last_frame.ensures.known p (pasts_from p s.forest) scrolled s.forest checked (all_built p marks old scrolled t s)
    (c.elements_have_pasts.ensures.tells (blueprint_of p).defaults scrolled s.forest (numbers_apart p marks old scrolled t s)) s.outputs

pub returns-clause-entered : goal.returns-clause-entered
returns-clause-entered c = λ p marks old scrolled t s. c.elements_have_pasts.ensures.entered marks (blueprint_of p).defaults old (made_count t + 1) scrolled s.forest s.nodes s.flags s.numbered

pub returns-clause-built : goal.returns-clause-built
returns-clause-built c = λ p marks old scrolled t h checked s live.
    let found = c.walk_laws.ensures.subtree t in
    let at = element_found p marks old scrolled t s checked found h live in
    (built_found p checked t found scrolled h at, placed_found p checked t found scrolled h at)

pub returns-clause-outputs : goal.returns-clause-outputs
returns-clause-outputs c = λ p marks old scrolled t h e checked s stored.
    let found = c.walk_laws.ensures.subtree t in
    output_found p checked t found scrolled h (element_found p marks old scrolled t s checked found h (live_element t h e stored)) e stored

pub returns-clause-names : goal.returns-clause-names
returns-clause-names c = λ p marks old scrolled t h e checked s stored.
    let found = c.walk_laws.ensures.subtree t in
    names_found p checked t found scrolled h (element_found p marks old scrolled t s checked found h (live_element t h e stored)) e stored
