use Rattle.std.proofs.Common.{refl}
use Rattle.build_walk.specs.Kept.{node_over}
use Rattle.kept_builds.proofs.Leaving.{found, no_number}
use Rattle.kept_builds.proofs.laws.elements_are_nodes.Goals as goal

pub returns-clause-found : goal.returns-clause-found
returns-clause-found c = λ p marks old scrolled t r g h e stands once stored.
    let f = found p marks scrolled t h e stored once old stands.elements in
    (node_over scrolled e f.0, f.1, refl, refl, refl)

pub returns-clause-missing : goal.returns-clause-missing
returns-clause-missing c = λ p marks old scrolled t r g number stands none_has. no_number p marks scrolled t old number stands.elements none_has
