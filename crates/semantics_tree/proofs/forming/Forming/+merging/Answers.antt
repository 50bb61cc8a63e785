use Rattle.std.proofs.Common.{◌≡◌, ◌∙◌, arith, ap}
use Rattle.std.proofs.lemmas.Result.{on_ok_weaker}
use Rattle.screen_form.specs.Sem.{total}
use Rattle.screen_form.specs.Fragment.{own}
use Rattle.semantics_tree.specs.Forming.{Heard, heard, after, side_by_side}
use Rattle.semantics_tree.proofs.Weights.{node_heavier, item_lighter}
use Rattle.semantics_tree.proofs.Hearing.{merged_more, merged_all, merges_node}
use Rattle.semantics_tree.proofs.forming.Forming.+merging.Goals as goal

pub merge-merge_all-requires : goal.merge-merge_all-requires
merge-merge_all-requires t c =
    let heavier = node_heavier c.args.node.now in
    let same = ap total c.get-2.ensures in
    (omega (arith, heavier, same, c.decreases), ap (λ (h : Heard). h.merging) c.in_ok-say.ensures ∙ c.requires)

pub merge-returns : goal.merge-returns
merge-returns t c =
    let n = c.args.node.now in
    let said : heard c.say.new.self ≡ after (heard c.args.self.now) (own n.label n.button) =
    c.in_ok-say.ensures ∙ ap (λ l. after (heard c.args.self.now) (own l n.button)) c.get.ensures.bytes in
    let own_said = heard c.say.new.self in
    let middle : Heard =
    record { merging = own_said.merging; label = own_said.label; button = own_said.button; tap = c.or-self.result; long = c.or-self-2.result; nodes = own_said.nodes } in
    on_ok_weaker c.merge_all.result
    (λ is_new.
    is_new
    ∙ ap (λ ss. after middle (side_by_side ss)) c.get-2.ensures
    ∙ merges_node (heard c.args.self.now) (heard c.say.new.self) c.or-self.result c.or-self-2.result n c.requires said c.or-self.ensures c.or-self-2.ensures)
    c.merge_all.ensures

pub merge_all-merge-requires : goal.merge_all-merge-requires
merge_all-merge-requires t c =
    let lighter = item_lighter c.args.nodes.now c.loop-node.node-index c.node-item.result c.loop-node-test.true c.node-item.is in
    (omega (arith, lighter, c.decreases), c.loop-node.invariant.1)

pub merge_all-loop-node-preserved : goal.merge_all-loop-node-preserved
merge_all-loop-node-preserved t c = (
  merged_more c.args.nodes.now c.loop-node.node-index c.node-item.result (heard c.loop-node.self) (heard c.merge.new.self) _
      c.loop-node-test.true c.node-item.is c.in_ok-merge.ensures c.loop-node.invariant.0,
  ap (λ (h : Heard). h.merging) c.in_ok-merge.ensures ∙ c.loop-node.invariant.1,
)

pub merge_all-returns : goal.merge_all-returns
merge_all-returns t c = merged_all c.args.nodes.now c.loop-node.node-index (heard c.loop-node.self) _ c.loop-node-test.false c.loop-node.invariant.0
