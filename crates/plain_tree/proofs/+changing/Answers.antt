use Rattle.std.proofs.Common.{◌≡◌, ◌∙◌, get_or, set, sym, ap}
use Rattle.std.proofs.lemmas.List.{set-get_or}
use Rattle.plain_tree.specs.PlainNode.{nodes_of}
use Rattle.plain_tree.specs.At.{applied, changed_at, changed_in, is_there}
use Rattle.plain_tree.proofs.Numbered.{one_more_without, changed_here, there_here}
use Rattle.plain_tree.proofs.+changing.Goals as goal

pub changing::change_in-returns-in-None-clause-there : goal.changing::change_in-returns-in-None-clause-there
changing::change_in-returns-in-None-clause-there t c =
    let item = c.index-nodes-i.result in
    let at : item ≡ get_or c.args.nodes.now c.loop-i.i item = c.index-nodes-i.is ∙ ap (λ ns. get_or ns c.loop-i.i item) c.loop-i.invariant.0 in
    there_here c.args.number c.args.nodes.now c.loop-i.i item c.loop-i-test.true at c.loop-i.invariant.2
    (ap (is_there c.args.number) c.index-nodes-i.is ∙ c.in-None.ensures.there)

pub changing::change_in-returns-in-None-clause-changed : goal.changing::change_in-returns-in-None-clause-changed
changing::change_in-returns-in-None-clause-changed t c =
    let item = c.index-nodes-i.result in
    let at : item ≡ get_or c.args.nodes.now c.loop-i.i item = c.index-nodes-i.is ∙ ap (λ ns. get_or ns c.loop-i.i item) c.loop-i.invariant.0 in
    ap (λ ns. nodes_of (set ns c.loop-i.i c.change.new.self)) c.loop-i.invariant.0
    ∙ changed_here (applied c.loop-i.change) c.args.number c.args.nodes.now c.loop-i.i item c.change.new.self c.loop-i-test.true at c.loop-i.invariant.2
    (ap (is_there c.args.number) c.index-nodes-i.is ∙ c.in-None.ensures.there)
    (c.in-None.ensures.changed ∙ ap (changed_at (applied c.loop-i.change) c.args.number) (sym c.index-nodes-i.is))
    ∙ ap (λ x. changed_in (applied x) c.args.number (nodes_of c.args.nodes.now)) c.loop-i.invariant.1

pub changing::change_in-loop-i-preserved : goal.changing::change_in-loop-i-preserved
changing::change_in-loop-i-preserved t c =
    let item = c.index-nodes-i.result in
    let at : item ≡ get_or c.args.nodes.now c.loop-i.i item = c.index-nodes-i.is ∙ ap (λ ns. get_or ns c.loop-i.i item) c.loop-i.invariant.0 in
    let missing = c.in-Some.ensures.missing in (
      ap (set c.loop-i.nodes c.loop-i.i) missing.2 ∙ set-get_or c.loop-i.nodes c.loop-i.i item ∙ c.loop-i.invariant.0,
      missing.1 ∙ c.loop-i.invariant.1,
      one_more_without c.args.number c.args.nodes.now c.loop-i.i item c.loop-i-test.true at c.loop-i.invariant.2
          (ap (is_there c.args.number) c.index-nodes-i.is ∙ missing.0),
    )
