use Rattle.std.proofs.Common.{map, sym, ◌∙◌}
use Rattle.plain_build.specs.PartnerView.{plain_arrival}
use Rattle.build_form.proofs.Arriving.{pushed}
use Rattle.plain_build.proofs.Itemized.{item_more, item_less}
use Rattle.plain_build.proofs.items.items_among.Goals as goal
use Rattle.plain_build.proofs.items.items_among.Goals.{then-is_item+in_ok-same_arrival+in_ok-push, else-is_item}

pub loop-i-preserved : goal.loop-i-preserved
loop-i-preserved c =
    let rs = c.args.arriving.now in
    let r = c.index-arriving-i.result in
    elim c.if-is_item.branch [
      | then-is_item+in_ok-same_arrival+in_ok-push w ↦
          rw w.items-is (item_more c.args.live rs c.loop-i.i r c.loop-i-test.true c.index-arriving-i.is (map plain_arrival c.loop-i.items.items) _ c.loop-i.invariant _ (sym c.is_item.ensures ∙ w.if-is_item.true)
          (pushed plain_arrival c.loop-i.items.items _ _ _ w.in_ok-push.ensures.items w.in_ok-same_arrival.ensures))
      | else-is_item w ↦
          rw w.items-is (item_less c.args.live rs c.loop-i.i r c.loop-i-test.true c.index-arriving-i.is (map plain_arrival c.loop-i.items.items) _ c.loop-i.invariant (sym c.is_item.ensures ∙ w.if-is_item.false))
    ]
