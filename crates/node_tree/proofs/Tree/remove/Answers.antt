use Rattle.std.proofs.Common.{sym, ap, ◌∙◌}
use Rattle.std.proofs.Common.{◌-◌, arith}
use Rattle.std.proofs.lemmas.Bool.{false≢true}
use Rattle.fx_handles.specs.Arena.{used_count}
use Rattle.node_tree.proofs.Removals.{removing-start, removing-more, removing-end}
use Rattle.node_tree.proofs.Tree.remove.Goals as goal

pub loop-h-init : goal.loop-h-init
loop-h-init g c = (removing-start _ c.args.h c.len-before.ensures.tree (c.contains.ensures.0 c.if-not-contains.false), c.len-before.ensures.value)

pub leaf_below-leaf-requires : goal.leaf_below-leaf-requires
leaf_below-leaf-requires g c = c.loop-h.invariant.0.live

pub overflow_sub-result : goal.overflow_sub-result
overflow_sub-result g c = omega (arith, c.len.ensures.value, c.loop-h.invariant.1, c.loop-h.invariant.0.fewer, c.take_leaf.ensures.takes.used)

pub returns-then-is_same-clause-removes : goal.returns-then-is_same-clause-removes
returns-then-is_same-clause-removes g c = λ _.
    removing-end _ _ _ c.args.h c.leaf_below-leaf.result _ _ (c.is_same.ensures.0 c.if-is_same.true) c.loop-h.invariant.0 c.leaf_below-leaf.ensures.leaf
    c.take_leaf.ensures.takes c.take_leaf.ensures.root c.take_leaf.ensures.inactive c.take_leaf.ensures.plain
    (ap (λ n. n - c.len.result) c.loop-h.invariant.1 ∙ ap (λ n. used_count c.args.self.now.nodes - n) c.len.ensures.value)

pub loop-h-smaller : goal.loop-h-smaller
loop-h-smaller g c =
    let more = removing-more _ _ _ c.args.h c.leaf_below-leaf.result _ c.loop-h.invariant.0 c.leaf_below-leaf.ensures.leaf c.leaf_below-leaf.ensures.inside (λ e. absurd (false≢true (sym c.if-is_same.false ∙ c.is_same.ensures.1 e)))
    c.take_leaf.ensures.takes c.take_leaf.ensures.root c.take_leaf.ensures.inactive c.take_leaf.ensures.plain in
    omega (arith, more.counted, c.loop-h.invariant.0.counted, c.take_leaf.ensures.takes.used)

pub loop-h-preserved : goal.loop-h-preserved
loop-h-preserved g c = (
  removing-more _ _ _ c.args.h c.leaf_below-leaf.result _ c.loop-h.invariant.0 c.leaf_below-leaf.ensures.leaf c.leaf_below-leaf.ensures.inside (λ e. absurd (false≢true (sym c.if-is_same.false ∙ c.is_same.ensures.1 e)))
      c.take_leaf.ensures.takes c.take_leaf.ensures.root c.take_leaf.ensures.inactive c.take_leaf.ensures.plain,
  c.loop-h.invariant.1,
)
