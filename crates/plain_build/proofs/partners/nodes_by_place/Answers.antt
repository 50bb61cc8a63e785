use Rattle.std.proofs.Common.{◌≡◌, ◌<◌, ap, arith, length-set, ◌∙◌}
use Rattle.plain_tree.specs.PlainNode.{index_of}
use Rattle.plain_build.proofs.ByPlace.{by_place_more}
use Rattle.plain_build.proofs.partners.nodes_by_place.Goals as goal

pub loop-k-preserved-then-place-count : goal.loop-k-preserved-then-place-count
loop-k-preserved-then-place-count c =
    let n = c.index-nodes-k.result in
    let e : c.node.inside.index ≡ index_of n = ap index_of c.node.view_is in
    let below : index_of n < c.args.count = omega arith in (
      length-set c.loop-k.by_place.items _ _ ∙ c.loop-k.invariant.0,
      λ j low. rw e (by_place_more c.args.nodes.now _ c.loop-k.k n c.args.count c.loop-k.by_place.items (omega arith) (omega arith) c.index-nodes-k.is below c.loop-k.invariant.0 c.loop-k.invariant.1 j low),
    )
