use Rattle.std.proofs.Common.{subst, sym, ◌∙◌}
use Rattle.render_tree.specs.declared.layout_state.LayoutState.{LayoutState}
use Rattle.render_tree.specs.Edits.{Changes}
use Rattle.render_tree.specs.LayoutState.{with_layout_state}
use Rattle.render_tree.specs.Tree.{object_at}
use Rattle.layout_owner.specs.Stays.{placed_state}
use Rattle.layout_owner.proofs.Rooting.{state_is}
use Rattle.layout_owner.proofs.root.place.Goals as goal

pub returns-clause-places : goal.returns-clause-places
returns-clause-places c =
    subst (λ (u : LayoutState). Changes c.args.r.now.tree c.set_layout_state.new.self.tree c.args.h (with_layout_state (placed_state u)))
    (state_is (object_at c.args.r.now.tree c.args.h) c.in-Some.state (sym c.layout_state.ensures ∙ c.in-Some.is)) c.set_layout_state.ensures.sets
