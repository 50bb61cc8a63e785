use Rattle.std.proofs.Common.{subst, sym, ◌<◌, length, List}
use Rattle.fx_handles.specs.declared.Handle.{Handle}
use Rattle.node_tree.proofs.Children.{among_at}
use Rattle.layout_rules.proofs.reading.child_at.Goals as goal

pub returns-then-i-children-clause-smaller : goal.returns-then-i-children-clause-smaller
returns-then-i-children-clause-smaller c = λ less.
    c.children-children.ensures.smaller _ (among_at c.children-children.result.now c.args.i _ (subst (λ (hs : List Handle). c.args.i < length hs) (sym c.children-children.ensures.value) less))
