use Rattle.std.proofs.Common.{ap, sym, ◌∙◌}
use Rattle.std.specs.Prelude.{option_copied}
use Rattle.tree_marks.proofs.MarkedNodes.{slot_of}
use Rattle.tree_marks.proofs.marks.is_slot_marked.Goals as goal

pub returns : goal.returns
returns g c = λ marked.
    let live = c.in-Some.ensures.live in
    let stored = sym c.value.ensures ∙ ap option_copied c.in-Some-value.is in
    slot_of g.M.Marks.marking c.args.tree.now c.in-Some.h c.in-Some-value.value.now live.1 stored (c.is_marked.ensures marked) c.args.index live.0
