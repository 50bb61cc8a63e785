use Rattle.std.proofs.Common.{◌≡◌, ◌<◌, ◌≤◌, ◌∙◌, [], ◌∷◌, ◌++◌, length, take, get_or, refl, sym, ap, subst, arith}
use Rattle.std.proofs.lemmas.List.{take_all, take_more}
use Rattle.fx_handles.specs.declared.Handle.{Handle}
use Rattle.node_tree.proofs.Children.{among_at}
use Rattle.tree_marks.specs.Sweep.{above_of, in_slots, SweepsTrees}
use Rattle.tree_marks.proofs.SweepTrees.{sweeps-none, sweeps-then, live_from_stands}
use Rattle.tree_marks.proofs.sweep.sweep_inactive.Goals as goal

pub sweep_at-more-requires : goal.sweep_at-more-requires
sweep_at-more-requires g c =
    let nowhere : Handle = record { index = 0; generation = 0 } in
    let same_list : c.inactive.result.now ≡ c.inactive-i-end.result.now = c.inactive.ensures.value ∙ c.loop-i.invariant.inactive ∙ sym c.inactive-i-end.ensures.value in
    let within : c.loop-i.i < length c.inactive.result.now = omega (arith, ap length same_list, c.loop-i-test.true) in
    let there = among_at c.inactive.result.now c.loop-i.i nowhere within in
    live_from_stands c.loop-i.tree (get_or c.inactive.result.now c.loop-i.i nowhere) _ (c.inactive.ensures.holds (get_or c.inactive.result.now c.loop-i.i nowhere) there)

pub loop-i-init : goal.loop-i-init
loop-i-init g c = sweeps-none g.M.Marks.marking g.M.Marks.lawful c.args.also (in_slots c.args.slots.now) (above_of c.args.place) c.args.tree.now _ refl refl

pub loop-i-preserved : goal.loop-i-preserved
loop-i-preserved g c =
    let m = g.M.Marks.marking in
    let q = in_slots c.args.slots.now in
    let p = above_of c.args.place in
    let cs = c.args.tree.now.inactive in
    let nowhere : Handle = record { index = 0; generation = 0 } in
    let same_list : c.inactive.result.now ≡ cs = c.inactive.ensures.value ∙ c.loop-i.invariant.inactive in
    let within : c.loop-i.i < length cs = omega (arith, ap length c.inactive-i-end.ensures.value, c.loop-i-test.true) in
    subst (λ hs. SweepsTrees m c.args.also q p hs c.args.tree.now c.sweep_at-more.new.tree c.both-found.result)
    (sym (take_more cs c.loop-i.i nowhere within ∙ ap (λ xs. take c.loop-i.i cs ++ get_or xs c.loop-i.i nowhere ∷ []) (sym same_list)))
    (sweeps-then m g.M.Marks.lawful c.args.also q p (take c.loop-i.i cs) (get_or c.inactive.result.now c.loop-i.i nowhere ∷ []) c.args.tree.now c.loop-i.tree c.sweep_at-more.new.tree c.loop-i.found
    c.sweep_at-more.result c.both-found.result c.loop-i.invariant c.sweep_at-more.ensures c.both-found.ensures.climbs c.both-found.ensures.listed)

pub returns : goal.returns
returns g c =
    let all : length c.args.tree.now.inactive ≤ c.loop-i.i = omega (arith, c.loop-i-test.false, ap length c.inactive-i-end.ensures.value) in
    subst (λ hs. SweepsTrees g.M.Marks.marking c.args.also (in_slots c.args.slots.now) (above_of c.args.place) hs c.args.tree.now c.loop-i.tree c.loop-i.found) (take_all c.loop-i.i c.args.tree.now.inactive all) c.loop-i.invariant
