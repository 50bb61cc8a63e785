use Rattle.std.proofs.Common.{◌≤◌, length, get_or, refl, ap, arith, false}
use Rattle.fx_handles.specs.declared.Handle.{Handle}
use Rattle.render_tree.proofs.Used.{live_from_stands}
use Rattle.render_tree.proofs.Dropped.{drops-next, drops-none, drops-all, among_at}
use Rattle.render_tree.proofs.dropping.drop_inactive_users.Goals as goal

pub loop-top-init : goal.loop-top-init
loop-top-init c = drops-none c.args.tree.now c.args.users.now (λ k. false) (λ k. refl)

pub drop_at-requires : goal.drop_at-requires
drop_at-requires c =
    let nowhere : Handle = record { index = 0; generation = 0 } in
    let top : Handle = get_or c.inactive-top-items.result.now c.loop-top.top-index nowhere in
    let there = among_at c.inactive-top-items.result.now c.loop-top.top-index nowhere c.loop-top-test.true in
    live_from_stands c.args.tree.now top _ (c.inactive-top-items.ensures.holds top there)

pub loop-top-preserved : goal.loop-top-preserved
loop-top-preserved c =
    drops-next c.args.tree.now c.loop-top.top-index c.args.tree.now.inactive c.inactive-top-items.result.now c.args.users.now c.loop-top.users c.drop_at.new.users
    c.inactive-top-items.ensures.value c.loop-top-test.true c.loop-top.invariant c.drop_at.ensures

pub returns : goal.returns
returns c =
    let all : length c.args.tree.now.inactive ≤ c.loop-top.top-index = omega (arith, c.loop-top-test.false, ap length c.inactive-top-items.ensures.value) in
    drops-all c.args.tree.now c.loop-top.top-index c.args.tree.now.inactive c.args.users.now c.loop-top.users all c.loop-top.invariant
