use Rattle.std.proofs.Common.{◌≡◌, ◌<◌, ◌≤◌, ◌&&◌, ◌||◌, ◌∙◌, [], ◌∷◌, ◌++◌, length, take, get_or, refl, sym, ap, subst, arith}
use Rattle.std.proofs.lemmas.List.{take_all, take_more}
use Rattle.fx_handles.specs.declared.Handle.{Handle}
use Rattle.node_tree.specs.Tree.{children_at, subtree_at}
use Rattle.node_tree.proofs.Children.{among_at}
use Rattle.tree_marks.specs.Sweep.{above_of, in_slots, SweepsTrees, each_swept}
use Rattle.tree_marks.proofs.SweepTrees.{sweeps-none, sweeps-then, sweeps-node, children-mapped, size-mapped, live_from_stands}
use Rattle.tree_marks.proofs.sweep.+sweeping.Goals as goal

pub sweep_at-returns : goal.sweep_at-returns
sweep_at-returns t g c =
    let q = in_slots c.args.slots.now in
    sweeps-node t.M.Marks.marking t.M.Marks.lawful c.args.also q (above_of c.args.place) c.args.tree.now c.sweep_below-found.new.tree c.set_marks.new.tree c.args.h c.in-Some.value.now
    c.sweep_below-found.result c.with_node.result c.reaches.result c.has_below.result c.root.ensures.tree c.requires (sym c.in-Some.ensures)
    (subst (λ a. SweepsTrees t.M.Marks.marking c.args.also q a (children_at c.args.tree.now c.args.h) c.args.tree.now c.sweep_below-found.new.tree c.sweep_below-found.result) c.place_within-below.ensures c.sweep_below-found.ensures)
    c.set_marks.ensures.writes c.set_marks.ensures.root c.set_marks.ensures.inactive
    (c.reaches.ensures ∙ ap (λ x. x || c.sweep_below-found.result.climbs) c.is_named-named.ensures)
    (c.has_below.ensures ∙ ap (λ x. c.sweep_below-found.result.listed || (c.args.also && x)) c.is_named-named.ensures)
    (c.with_node.ensures.climbs ∙ ap (λ x. x && c.goes_on-rising.result) (sym c.reaches.ensures) ∙ ap (λ x. c.reaches.result && x) c.goes_on-rising.ensures)
    (c.with_node.ensures.listed ∙ ap (λ x. x || c.sweep_below-found.result.listed) c.is_named-named.ensures)

pub sweep_below-sweep_at-more-requires : goal.sweep_below-sweep_at-more-requires
sweep_below-sweep_at-more-requires t g c = λ κs lives.
    let m = t.M.Marks.marking in
    let cs = children_at c.args.tree.now c.args.h in
    let nowhere : Handle = record { index = 0; generation = 0 } in
    let set = each_swept m c.args.also (in_slots c.args.slots.now) (above_of c.args.place) (subtree_at c.args.tree.now) (take c.loop-i.i cs) in
    let kept = children-mapped set c.args.tree.now c.loop-i.tree c.args.h c.loop-i.invariant.values in
    let same_list : c.children.result.now ≡ c.children-i-end.result.now = c.children.ensures.value ∙ kept ∙ sym c.children-i-end.ensures.value in
    let within : c.loop-i.i < length c.children.result.now = omega (arith, ap length same_list, c.loop-i-test.true) in
    let there = among_at c.children.result.now c.loop-i.i nowhere within in
    let smaller = c.children.ensures.smaller (get_or c.children.result.now c.loop-i.i nowhere) there in
    let same_size = size-mapped set c.args.tree.now c.loop-i.tree c.args.h c.loop-i.invariant.values c.loop-i.invariant.handles in
    let d = c.decreases in
    (omega arith, (lives.0, (lives.1, live_from_stands c.loop-i.tree (get_or c.children.result.now c.loop-i.i nowhere) _ (c.children.ensures.holds (get_or c.children.result.now c.loop-i.i nowhere) there))))

pub sweep_below-loop-i-init : goal.sweep_below-loop-i-init
sweep_below-loop-i-init t g c = sweeps-none t.M.Marks.marking t.M.Marks.lawful c.args.also (in_slots c.args.slots.now) (above_of c.args.place) c.args.tree.now _ refl refl

pub sweep_below-loop-i-preserved : goal.sweep_below-loop-i-preserved
sweep_below-loop-i-preserved t g c =
    let m = t.M.Marks.marking in
    let q = in_slots c.args.slots.now in
    let p = above_of c.args.place in
    let cs = children_at c.args.tree.now c.args.h in
    let nowhere : Handle = record { index = 0; generation = 0 } in
    let kept = children-mapped (each_swept m c.args.also q p (subtree_at c.args.tree.now) (take c.loop-i.i cs)) c.args.tree.now c.loop-i.tree c.args.h c.loop-i.invariant.values in
    let same_list : c.children.result.now ≡ cs = c.children.ensures.value ∙ kept in
    let within : c.loop-i.i < length cs = omega (arith, ap length c.children-i-end.ensures.value, c.loop-i-test.true) in
    subst (λ hs. SweepsTrees m c.args.also q p hs c.args.tree.now c.sweep_at-more.new.tree c.both-found.result)
    (sym (take_more cs c.loop-i.i nowhere within ∙ ap (λ xs. take c.loop-i.i cs ++ get_or xs c.loop-i.i nowhere ∷ []) (sym same_list)))
    (sweeps-then m t.M.Marks.lawful c.args.also q p (take c.loop-i.i cs) (get_or c.children.result.now c.loop-i.i nowhere ∷ []) c.args.tree.now c.loop-i.tree c.sweep_at-more.new.tree c.loop-i.found
    c.sweep_at-more.result c.both-found.result c.loop-i.invariant c.sweep_at-more.ensures c.both-found.ensures.climbs c.both-found.ensures.listed)

pub sweep_below-returns : goal.sweep_below-returns
sweep_below-returns t g c =
    let all : length (children_at c.args.tree.now c.args.h) ≤ c.loop-i.i = omega (arith, c.loop-i-test.false, ap length c.children-i-end.ensures.value) in
    subst (λ hs. SweepsTrees t.M.Marks.marking c.args.also (in_slots c.args.slots.now) (above_of c.args.place) hs c.args.tree.now c.loop-i.tree c.loop-i.found) (take_all c.loop-i.i (children_at c.args.tree.now c.args.h) all) c.loop-i.invariant
