use Rattle.std.proofs.Common.{◌≡◌, ◌<◌, ◌≤◌, ◌∙◌, length, get_or, refl, sym, ap, arith, false}
use Rattle.fx_handles.specs.declared.Handle.{Handle}
use Rattle.render_tree.proofs.Used.{live_from_stands}
use Rattle.render_tree.proofs.Dropped.{among_at}
use Rattle.render_tree.proofs.Ranged.{clears-next, clears-all, clears_none}
use Rattle.render_tree.proofs.clearing.clear_inactive.Goals as goal

pub loop-i-init : goal.loop-i-init
loop-i-init c = clears_none c.args.tree.now (λ k. false) (λ k. refl)

pub clear_at-requires : goal.clear_at-requires
clear_at-requires c =
    let nowhere : Handle = record { index = 0; generation = 0 } in
    let same_list : c.inactive.result.now ≡ c.inactive-i-end.result.now = c.inactive.ensures.value ∙ c.loop-i.invariant.inactive ∙ sym c.inactive-i-end.ensures.value in
    let within : c.loop-i.i < length c.inactive.result.now = omega (arith, ap length same_list, c.loop-i-test.true) in
    let there = among_at c.inactive.result.now c.loop-i.i nowhere within in
    live_from_stands c.loop-i.tree (get_or c.inactive.result.now c.loop-i.i nowhere) _ (c.inactive.ensures.holds (get_or c.inactive.result.now c.loop-i.i nowhere) there)

pub loop-i-preserved : goal.loop-i-preserved
loop-i-preserved c =
    let cs = c.args.tree.now.inactive in
    let nowhere : Handle = record { index = 0; generation = 0 } in
    let same_list : c.inactive.result.now ≡ cs = c.inactive.ensures.value ∙ c.loop-i.invariant.inactive in
    let within : c.loop-i.i < length cs = omega (arith, ap length c.inactive-i-end.ensures.value, c.loop-i-test.true) in
    clears-next c.args.tree.now c.loop-i.tree c.clear_at.new.tree c.loop-i.i cs (get_or c.inactive.result.now c.loop-i.i nowhere) nowhere within (ap (λ xs. get_or xs c.loop-i.i nowhere) same_list) c.loop-i.invariant c.clear_at.ensures

pub returns : goal.returns
returns c =
    let all : length c.args.tree.now.inactive ≤ c.loop-i.i = omega (arith, c.loop-i-test.false, ap length c.inactive-i-end.ensures.value) in
    clears-all c.args.tree.now c.loop-i.tree c.loop-i.i c.args.tree.now.inactive all c.loop-i.invariant
