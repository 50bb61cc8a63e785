use Rattle.std.proofs.Common.{◌<◌, length, get_or, arith}
use Rattle.fx_handles.specs.declared.Handle.{Handle}
use Rattle.node_tree.proofs.Children.{among_at}
use Rattle.layout_rules.proofs.only.only_child.Goals as goal

pub returns-clause-smaller : goal.returns-clause-smaller
returns-clause-smaller c =
    let hs = c.children-children.result.now in
    let first : Handle = get_or hs 0 (record { index = 0; generation = 0 }) in
    let less : 0 < length hs = let n = c.if-children-ne1.false in omega (arith, n) in
    c.children-children.ensures.smaller first (among_at hs 0 (record { index = 0; generation = 0 }) less)
