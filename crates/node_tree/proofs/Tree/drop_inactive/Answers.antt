use Rattle.std.proofs.Common.{sym, ap, ◌∙◌}
use Rattle.std.proofs.Common.{◌-◌, arith}
use Rattle.fx_handles.specs.Arena.{used_count}
use Rattle.node_tree.proofs.EditLemmas.{if_some_at, if_none_from}
use Rattle.node_tree.proofs.TreeLemmas.{Holds-from_Is}
use Rattle.node_tree.proofs.TreeEdits.{inactive_top}
use Rattle.node_tree.proofs.Removals.{dropping-start, dropping-more, dropping-done, size_top}
use Rattle.node_tree.proofs.Tree.drop_inactive.Goals as goal

pub loop-top-init : goal.loop-top-init
loop-top-init g c = (dropping-start _ c.len-before.ensures.tree, c.len-before.ensures.value)

pub loop-top-preserved : goal.loop-top-preserved
loop-top-preserved g c =
    let among = rw c.inactive.ensures.value at (if_some_at _ _ _ c.in-Some.is c.last_of.ensures.among) in
    let is = c.loop-top.invariant.0.is_tree in
    let top = inactive_top _ is.0 c.in-Some.top is.1 among in
    (dropping-more _ _ _ c.in-Some.top _ c.loop-top.invariant.0 among (c.remove.ensures.removes top.0), c.loop-top.invariant.1)

pub loop-top-smaller : goal.loop-top-smaller
loop-top-smaller g c =
    let among = rw c.inactive.ensures.value at (if_some_at _ _ _ c.in-Some.is c.last_of.ensures.among) in
    let is = c.loop-top.invariant.0.is_tree in
    let top = inactive_top _ is.0 c.in-Some.top is.1 among in
    let removes = c.remove.ensures.removes top.0 in
    let holds = Holds-from_Is _ is.0 c.in-Some.top is.1 top.0 in
    omega (arith, removes.used, removes.counted, size_top _ c.in-Some.top holds.top)

pub overflow_sub-result : goal.overflow_sub-result
overflow_sub-result g c = omega (arith, c.len.ensures.value, c.loop-top.invariant.1, c.loop-top.invariant.0.fewer)

pub returns : goal.returns
returns g c =
    let none_left = if_none_from _ _ c.in_default.not-Some c.last_of.ensures.empty in
    dropping-done _ _ _ c.loop-top.invariant.0 (sym c.inactive.ensures.value ∙ none_left)
    (ap (λ n. n - c.len.result) c.loop-top.invariant.1 ∙ ap (λ n. used_count c.args.self.now.nodes - n) c.len.ensures.value)
