use Rattle.std.proofs.Common.{sym, ap, ◌∙◌, ◌-◌, take, length, ◌∷◌, [], arith, length-append}
use Rattle.node_tree.proofs.EditLemmas.{others_last, take_front}
use Rattle.node_tree.proofs.nodes.drop_once.Goals as goal

pub overflow_sub-end : goal.overflow_sub-end
overflow_sub-end c =
    let ends = c.is_last.ensures c.if-is_last.true in
    let len = ap length ends.1 in
    omega (arith, length-append ends.0 (c.args.h ∷ []), c.as_slice.ensures.len, c.len-end.ensures)

pub returns-then-is_last : goal.returns-then-is_last
returns-then-is_last c =
    let ends = c.is_last.ensures c.if-is_last.true in
    let e = sym c.as_slice.ensures.value ∙ ends.1 in
    c.truncate.ensures.items ∙ ap (λ n. take (n - 1) c.args.list.now.items) (c.len-end.ensures ∙ sym c.as_slice.ensures.len ∙ ap length c.as_slice.ensures.value)
    ∙ take_front c.args.h ends.0 _ e ∙ sym (others_last c.args.h ends.0 _ e c.requires)
