use Rattle.std.proofs.Common.{ap, sym, ◌∙◌, List}
use Rattle.std.proofs.lemmas.List.{at_drop_all}
use Rattle.fx_handles.specs.declared.Handle.{Handle}
use Rattle.layout_rules.specs.Reads.{marks_at}
use Rattle.layout_rules.proofs.Filling.{marks_here}
use Rattle.layout_rules.proofs.reading.any_mark.Goals as goal

pub returns-then-is_marked : goal.returns-then-is_marked
returns-then-is_marked c =
    let t = c.args.r.now.tree in
    let hs = c.children-children.result.now in
    sym (marks_here t hs c.loop-child.child-index _ c.loop-child-test.true (sym c.is_marked.ensures ∙ c.if-is_marked.true))
    ∙ c.loop-child.invariant ∙ ap (λ (ks : List Handle). marks_at t ks) c.children-children.ensures.value

pub returns : goal.returns
returns c =
    let t = c.args.r.now.tree in
    sym (at_drop_all (marks_at t) c.children-children.result.now c.loop-child.child-index c.loop-child-test.false)
    ∙ c.loop-child.invariant ∙ ap (λ (ks : List Handle). marks_at t ks) c.children-children.ensures.value
