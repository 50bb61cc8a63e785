use Rattle.build_form.specs.Program.{blueprint_of}
use Rattle.build_owner.specs.Standing.{next_at}
use Rattle.build_owner.specs.Phases.{first_node_of}
use Rattle.build_owner.proofs.laws.survivors.Goals as goal

pub returns-clause-first : goal.returns-clause-first
returns-clause-first c = λ p t0 r0 g0 b w t r g l q. (
  c.survivors.ensures.first (blueprint_of p) b.old (next_at t0) w (first_node_of q) _ b.stands.elements.numbered q.walked.is,
  c.states_survive.ensures.first (blueprint_of p) b.old (next_at t0) w (first_node_of q) _ b.stands.elements.numbered q.walked.is,
)

pub returns-clause-whole : goal.returns-clause-whole
returns-clause-whole c = λ p t0 r0 g0 b screen w was t r g q. (
  c.survivors.ensures.whole (blueprint_of p) screen b.old (next_at t0) (next_at t) w q.tree b.stands.elements.numbered q.is,
  c.states_survive.ensures.whole (blueprint_of p) screen b.old (next_at t0) (next_at t) w q.tree b.stands.elements.numbered q.is,
)
