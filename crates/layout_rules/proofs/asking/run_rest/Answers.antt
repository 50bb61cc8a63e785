use Rattle.std.proofs.Common.{ap, ◌∙◌, List, Option}
use Rattle.fx_handles.specs.declared.Handle.{Handle}
use Rattle.node_tree.specs.Tree.{children_at}
use Rattle.plain_tree.specs.declared.laid.Frame.{Frame}
use Rattle.layout_form.specs.declared.asks.Ask.{Ask}
use Rattle.kind_rules.specs.Few.{items_of}
use Rattle.render_tree.specs.Tree.{RenderTree}
use Rattle.layout_rules.specs.Places.{render_at}
use Rattle.layout_rules.specs.Reads.{state_at, frames_at, rest_by}
use Rattle.layout_rules.proofs.Filling.{if_ok}
use Rattle.layout_rules.proofs.Readings.{first_alone, rest_none}
use Rattle.layout_rules.proofs.asking.run_rest.Goals as goal

pub returns-then-not-asks_again : goal.returns-then-not-asks_again
returns-then-not-asks_again c =
    let t = c.args.r.now.tree in
    let h = c.args.h in
    let at = ap (λ (r : RenderTree). render_at r.tree c.new-cursor.result.at) c.new-cursor.ensures.tree ∙ ap (λ (k : Handle). render_at t k) c.new-cursor.ensures.at in
    rest_none (render_at t h) _ _ c.asks_again.result (state_at t h) c.args.ask c.args.told.now (frames_at t (items_of c.args.first.now) (children_at t h)) at c.kind.ensures c.asks_again.ensures c.if-not-asks_again.true

pub returns : goal.returns
returns c =
    let t = c.args.r.now.tree in
    let h = c.args.h in
    let first = items_of c.args.first.now in
    if_ok c.rule_rest.result _ _ (λ asks is.
    is ∙ ap (λ (fs : List (Option Frame)). rest_by (render_at t h) (state_at t h) c.args.ask c.args.told.now fs)
    (c.as_slice.ensures ∙ c.in_ok-known.ensures ∙ ap (λ (xs : List (Option Ask)). frames_at t xs (children_at t h)) (first_alone first))) c.rule_rest.ensures
