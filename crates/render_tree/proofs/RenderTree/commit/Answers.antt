use Rattle.std.proofs.Common.{List, sym, subst}
use Rattle.fx_handles.specs.declared.Handle.{Handle}
use Rattle.fx_handles.specs.Handle.{AreDistinct}
use Rattle.node_tree.specs.Plan.{PlanEntry, IsPlan, planned}
use Rattle.render_tree.specs.Redraw.{Redraw}
use Rattle.render_tree.specs.Renamed.{RenamesAll}
use Rattle.render_tree.proofs.Planned.{used_committed}
use Rattle.render_tree.proofs.Quiet.{noteless_committed}
use Rattle.render_tree.proofs.RenderTree.commit.Goals as goal

pub rename_all-requires : goal.rename_all-requires
rename_all-requires c = subst (λ (es : List (PlanEntry Redraw)). AreDistinct (planned es)) (sym c.as_slice.ensures.value) c.requires.1.once

pub invariant_of-self-2 : goal.invariant_of-self-2
invariant_of-self-2 c = (
  used_committed c.self.inside.tree c.commit.new.self c.args.plan.now.items c.new-users.result c.rename_all.new.users c.requires.1.once c.new-users.ensures
      (subst (λ (es : List (PlanEntry Redraw)). RenamesAll c.self.inside.tree es c.new-users.result c.rename_all.new.users) c.as_slice.ensures.value c.in_ok-rename_all.ensures)
      c.in_ok-commit.ensures.commits,
  λ e. noteless_committed c.self.inside.tree c.commit.new.self c.args.plan.now.items (c.self.invariant.1 e) c.in_ok-commit.ensures.commits,
)

pub returns-clause-plain : goal.returns-clause-plain
returns-clause-plain c =
    rw (← c.self.view_is) (λ g f is updated.
    c.in_ok-commit.ensures.plain g f (subst (λ (hs : List Handle). IsPlan c.self.inside.tree c.args.plan.now.items c.args.root hs g) (sym c.new-inactive.ensures.items) is) updated)
