use Rattle.render_tree.proofs.Planned.{Renaming}
use Rattle.render_tree.proofs.commits.rename_all.Given as goal

-- what is left of the plan gives what all of it would give
abbrev pub invariant-loop-entry : goal.invariant-loop-entry
invariant-loop-entry l = Renaming l.tree l.plan l.entry-index l.fn.users l.users
