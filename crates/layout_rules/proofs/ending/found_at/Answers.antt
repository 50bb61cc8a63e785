use Rattle.std.proofs.Common.{ap, ◌∙◌, List, Option}
use Rattle.node_tree.specs.Tree.{children_at}
use Rattle.widget_model.specs.View.{look_in}
use Rattle.plain_tree.specs.declared.laid.Frame.{Frame}
use Rattle.layout_form.specs.declared.asks.Ask.{Ask}
use Rattle.kind_rules.specs.Asked.{found_for}
use Rattle.kind_rules.specs.Few.{items_of}
use Rattle.layout_rules.specs.Reads.{frames_at}
use Rattle.layout_rules.proofs.Readings.{first_alone, found_none}
use Rattle.layout_rules.proofs.ending.found_at.Goals as goal

pub returns-then-not-finds : goal.returns-then-not-finds
returns-then-not-finds c =
    let t = c.args.r.now.tree in
    c.findings.ensures
    ∙ found_none (look_in c.args.kind.now) c.finds.result c.args.scroll c.args.ask (frames_at t (items_of c.args.first.now) (children_at t c.args.h)) c.finds.ensures c.if-not-finds.true

pub returns : goal.returns
returns c =
    let t = c.args.r.now.tree in
    let first = items_of c.args.first.now in
    c.findings-2.ensures
    ∙ ap (λ (fs : List (Option Frame)). found_for (look_in c.args.kind.now) c.args.scroll c.args.ask fs)
    (c.as_slice.ensures ∙ c.in_ok-known.ensures ∙ ap (λ (xs : List (Option Ask)). frames_at t xs (children_at t c.args.h)) (first_alone first))
