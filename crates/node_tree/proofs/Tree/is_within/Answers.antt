use Rattle.std.proofs.Common.{refl, sym, ◌∙◌}
use Rattle.std.proofs.lemmas.Bool.{false≢true}
use Rattle.node_tree.specs.Tree.{IsTree}
use Rattle.node_tree.proofs.Walks.{climbs-start, climbs-more, climbs-found, climbs-ended, climb_less}
use Rattle.node_tree.proofs.Tree.is_within.Goals as goal

pub loop-next-init : goal.loop-next-init
loop-next-init g c =
    let is : IsTree c.args.self.now = rw c.self.view_is at c.self.invariant in
    climbs-start _ c.args.h c.args.top is c.requires

pub loop-next-preserved : goal.loop-next-preserved
loop-next-preserved g c =
    rw c.parent-next.ensures.value (climbs-more _ c.args.h c.args.top c.in-Some.at _ c.loop-next.invariant c.in-Some.is (λ e. absurd (false≢true (sym c.if-is_same.false ∙ c.is_same.ensures.1 e))))

pub loop-next-smaller : goal.loop-next-smaller
loop-next-smaller g c =
    let is = c.loop-next.invariant.is_tree in
    rw (c.in-Some.is, c.parent-next.ensures.value) (climb_less _ is.0 c.in-Some.at is.1)

pub returns-then-is_same : goal.returns-then-is_same
returns-then-is_same g c = (
  λ _. climbs-found _ c.args.h c.args.top c.in-Some.at _ c.loop-next.invariant c.in-Some.is (c.is_same.ensures.0 c.if-is_same.true),
  λ _. refl,
)

pub returns : goal.returns
returns g c = (
  λ e. absurd (false≢true e),
  λ among. absurd (climbs-ended _ c.args.h c.args.top _ c.loop-next.invariant c.in_default.not-Some among),
)
