use Rattle.std.proofs.Common.{sym, ap, ◌∙◌}
use Rattle.render_tree.specs.Tree.{RenderTree}
use Rattle.layout_owner.proofs.Ranging.{range_set, range_none}
use Rattle.layout_owner.proofs.ranges.set_range.Goals as goal

pub returns-in-Some-clause-sets : goal.returns-in-Some-clause-sets
returns-in-Some-clause-sets c =
    range_set c.args.r.now.scale.widen c.args.r.now.tree c.set_live.new.self.tree c.args.h c.in-Some.range (λ o is. sym c.in-Some.is ∙ c.range_of.ensures o is) c.set_live.ensures.lazy
    (λ e. ap (λ (x : RenderTree). x.tree) (c.set_live.ensures.absent e))

pub returns-in_default-clause-sets : goal.returns-in_default-clause-sets
returns-in_default-clause-sets c = range_none c.args.r.now.scale.widen c.args.r.now.tree c.args.h (λ o is. sym c.in_default.is ∙ c.range_of.ensures o is)
