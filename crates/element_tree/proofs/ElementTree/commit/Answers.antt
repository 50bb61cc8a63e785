use Rattle.std.proofs.Common.{List, sym, subst}
use Rattle.fx_handles.specs.declared.Handle.{Handle}
use Rattle.node_tree.specs.Plan.{IsPlan}
use Rattle.element_tree.proofs.Indexed.{indexed-committed}
use Rattle.element_tree.proofs.ElementTree.commit.Goals as goal

pub invariant_of-self-2 : goal.invariant_of-self-2
invariant_of-self-2 c =
    indexed-committed c.self.inside.numbers.items c.forget_dead.new.numbers.items c.self.inside.tree c.commit.new.self c.self.inside.next c.args.plan.now.items c.self.invariant
    (rw (← c.self.view_is) at c.requires.follows) c.in_ok-commit.ensures.commits c.forget_dead.ensures

pub returns-clause-used : goal.returns-clause-used
returns-clause-used c =
    rw (← c.self.view_is) (λ g is.
    c.in_ok-commit.ensures.used g (subst (λ (hs : List Handle). IsPlan c.self.inside.tree c.args.plan.now.items c.args.root hs g) (sym c.new-inactive.ensures.items) is))

pub returns-clause-plain : goal.returns-clause-plain
returns-clause-plain c =
    rw (← c.self.view_is) (λ g f is updated.
    c.in_ok-commit.ensures.plain g f (subst (λ (hs : List Handle). IsPlan c.self.inside.tree c.args.plan.now.items c.args.root hs g) (sym c.new-inactive.ensures.items) is) updated)
