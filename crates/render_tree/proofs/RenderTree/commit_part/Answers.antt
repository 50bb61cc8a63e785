use Rattle.std.proofs.Common.{List, sym, subst}
use Rattle.fx_handles.specs.Handle.{AreDistinct}
use Rattle.node_tree.specs.Plan.{PlanEntry, planned}
use Rattle.render_tree.specs.Redraw.{Redraw}
use Rattle.render_tree.specs.Renamed.{RenamesAll}
use Rattle.render_tree.proofs.Planned.{used_committed_part}
use Rattle.render_tree.proofs.Quiet.{noteless_part}
use Rattle.render_tree.proofs.RenderTree.commit_part.Goals as goal

pub rename_all-requires : goal.rename_all-requires
rename_all-requires c = subst (λ (es : List (PlanEntry Redraw)). AreDistinct (planned es)) (sym c.as_slice.ensures.value) c.requires.1.once

pub invariant_of-self-2 : goal.invariant_of-self-2
invariant_of-self-2 c = (
  used_committed_part c.self.inside.tree c.commit_part.new.self c.args.plan.now.items c.self.inside.users c.in_ok-users.users c.rename_all.new.users c.requires.1.once c.self.invariant.0 c.in_ok-users.ensures
      (subst (λ (es : List (PlanEntry Redraw)). RenamesAll c.self.inside.tree es c.in_ok-users.users c.rename_all.new.users) c.as_slice.ensures.value c.in_ok-rename_all.ensures)
      c.in_ok-commit_part.ensures.commits,
  λ e. noteless_part c.self.inside.tree c.commit_part.new.self c.args.plan.now.items (c.self.invariant.1 e) c.in_ok-commit_part.ensures.commits,
)
