use Rattle.std.proofs.Common.{◌≡◌, ap, subst, ◌∙◌, Bool}
use Rattle.node_tree.specs.Forest.{tops}
use Rattle.node_tree.specs.Forest.Forest.{none, tree}
use Rattle.render_tree.specs.declared.layout_state.LayoutState.{LayoutState}
use Rattle.layout_walk.specs.Node.{LayoutNode}
use Rattle.layout_walk.specs.Walk.{any_mark, marked_below}
use Rattle.layout_rules.specs.Painting.{own_in, place_in}
use Rattle.layout_rules.specs.Turns.{Turns, node_with}
use Rattle.layout_rules.proofs.Repainting.{leaves_mark}
use Rattle.layout_rules.proofs.Readings.{stored_state, marks_are}
use Rattle.layout_rules.proofs.Turning.{seen_stored, node_turns}
use Rattle.layout_rules.proofs.ending.visited.Goals as goal

pub returns-clause-ends : goal.returns-clause-ends
returns-clause-ends c = λ v kids seen.
    let t = c.args.r.now.tree in
    let h = c.args.h in
    let new = c.set_layout_state.new.self.tree in
    let node : node_with (record c.state_at-state.result { layout_below = c.any_mark.result }) v ≡ marked_below v (any_mark kids) =
    ap (λ (u : LayoutState). node_with (record u { layout_below = c.any_mark.result }) v) (c.state_at-state.ensures ∙ stored_state t h v (tops kids) (seen_stored t h v kids seen))
    ∙ ap (λ (b : Bool). marked_below v b) (c.any_mark.ensures ∙ marks_are t h v kids seen) in
    subst (λ (w : LayoutNode). Turns t new h (tree h v kids none) (tree h w kids none)) node (node_turns t new h v kids _ seen c.set_layout_state.ensures.sets)

pub returns-clause-paints : goal.returns-clause-paints
returns-clause-paints c = λ hs.
    leaves_mark c.args.r.now.tree c.set_layout_state.new.self.tree c.args.h (record c.state_at-state.result { layout_below = c.any_mark.result }) hs c.set_layout_state.ensures.sets
    (ap (λ (u : LayoutState). own_in u) c.state_at-state.ensures) (ap (λ (u : LayoutState). place_in u) c.state_at-state.ensures)
