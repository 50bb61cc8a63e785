use Rattle.std.proofs.Common.{ap, ◌∙◌, sym}
use Rattle.plain_tree.specs.PlainNode.{nodes_of}
use Rattle.plain_tree.specs.Offsets.{scrolled_by, kept_at}
use Rattle.plain_tree.proofs.Walking.{changed_more, changed_whole, all_scrolled}
use Rattle.plain_tree.proofs.+scrolling.Goals as goal

pub scrolling::scroll_all_by-loop-i-preserved : goal.scrolling::scroll_all_by-loop-i-preserved
scrolling::scroll_all_by-loop-i-preserved t c =
    let g = scrolled_by (kept_at c.args.offsets.now) in
    changed_more g c.args.nodes.now c.loop-i.nodes c.loop-i.i c.index-nodes-i.result c.scroll_by.new.self c.loop-i-test.true c.loop-i.invariant
    c.index-nodes-i.is (c.scroll_by.ensures ∙ ap g (sym c.index-nodes-i.is))

pub scrolling::scroll_all_by-returns : goal.scrolling::scroll_all_by-returns
scrolling::scroll_all_by-returns t c =
    let g = scrolled_by (kept_at c.args.offsets.now) in
    ap nodes_of (changed_whole g c.args.nodes.now c.loop-i.nodes c.loop-i.i c.loop-i-test.false c.loop-i.invariant)
    ∙ all_scrolled (kept_at c.args.offsets.now) c.args.nodes.now
