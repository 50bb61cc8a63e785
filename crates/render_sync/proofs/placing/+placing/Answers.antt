use Rattle.std.proofs.Common.{List, ◌+◌, IsSome, subst, ◌∙◌, arith}
use Rattle.std.specs.BTreeMap.{get}
use Rattle.std.specs.Ordering.{nat_cmp}
use Rattle.fx_handles.specs.Arena.{used_count, retired_count, inserted_count}
use Rattle.plain_tree.specs.Render.{Render, renders_of}
use Rattle.render_sync.specs.Renders.{EachNumber, AllNumbers}
use Rattle.render_sync.proofs.PlaceLemmas.{ok_three, count_of_one, one_taken, room_more, room_after, numbers_after, stays_numbered, grows_more}
use Rattle.render_sync.proofs.placing.+placing.Goals as goal

pub place_node-returns-clause-there : goal.place_node-returns-clause-there
place_node-returns-clause-there t c =
    let first = c.in_ok-place.ensures in
    ok_three c.place_nodes.result c.place_nodes.ensures.index c.place_nodes.ensures.grows c.place_nodes.ensures.there
    (λ index grows there.
    subst (EachNumber (λ n. IsSome (get nat_cmp c.place_nodes.new.numbers n))) c.node.view_is (
      stays_numbered c.place.new.numbers c.place_nodes.new.numbers c.place.new.tree.tree c.place_nodes.new.tree.tree first.index index grows.keeps c.node.inside.number first.there,
      subst (λ (rs : List Render). AllNumbers (λ n. IsSome (get nat_cmp c.place_nodes.new.numbers n)) (renders_of rs)) c.as_slice.ensures.value there,
    ))

pub place_nodes-place_node-requires : goal.place_nodes-place_node-requires
place_nodes-place_node-requires t c =
    let so_far = c.loop-node.invariant in
    let taken = one_taken c.loop-node.node-index c.args.nodes.now c.node-item.result c.loop-node-test.true c.node-item.is in (
      let few = count_of_one c.loop-node.node-index c.args.nodes.now c.node-item.result taken in let d = c.decreases in omega arith,
      (so_far.0, room_more (used_count c.args.tree.now.tree.nodes + retired_count c.args.tree.now.tree.nodes) _ c.loop-node.node-index _ c.args.nodes.now c.node-item.result taken so_far.3 c.requires.room),
    )

pub place_nodes-loop-node-preserved : goal.place_nodes-loop-node-preserved
place_nodes-loop-node-preserved t c =
    let so_far = c.loop-node.invariant in
    let one = c.in_ok-place_node.ensures in
    let taken = one_taken c.loop-node.node-index c.args.nodes.now c.node-item.result c.loop-node-test.true c.node-item.is in (
      one.index,
      numbers_after _ _ c.loop-node.node-index c.args.nodes.now c.node-item.result taken
          (stays_numbered c.loop-node.numbers c.place_node.new.numbers c.loop-node.tree.tree c.place_node.new.tree.tree so_far.0 one.index one.grows.keeps) so_far.1 one.there,
      grows_more c.args.tree.now.tree c.loop-node.tree.tree c.place_node.new.tree.tree so_far.2 one.grows,
      room_after (used_count c.args.tree.now.tree.nodes + retired_count c.args.tree.now.tree.nodes) c.loop-node.node-index _ _ c.args.nodes.now c.node-item.result taken so_far.3 one.room,
      room_after (inserted_count c.args.tree.now.tree.nodes) c.loop-node.node-index _ _ c.args.nodes.now c.node-item.result taken so_far.4 one.made,
      c.place_node.ensures.spent ∙ so_far.5,
      c.place_node.ensures.scale ∙ so_far.6,
    )
