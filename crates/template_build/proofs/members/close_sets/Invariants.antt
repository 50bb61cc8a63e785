use Rattle.std.proofs.Common.{◌≡◌, map, take}
use Rattle.fx_expr.specs.ScopeView.{env_of}
use Rattle.fx_expr.specs.View.{set_of}
use Rattle.template_build.specs.Members.{closed_set}
use Rattle.template_build.proofs.members.close_sets.Given as goal

abbrev pub invariant-loop-set : goal.invariant-loop-set
invariant-loop-set l = map set_of l.closed.items ≡ map (closed_set (env_of l.scope)) (map set_of (take l.set-index l.list))
