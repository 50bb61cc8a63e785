use Rattle.std.proofs.Common.{false, sym, ap, ◌∙◌, option_copied}
use Rattle.node_tree.specs.Tree.{node_at}
use Rattle.tree_marks.specs.Ways.{place_of}
use Rattle.tree_marks.proofs.ClimbSteps.{way_none, way_some}
use Rattle.tree_marks.proofs.climb.ends_mark.Goals as goal

pub returns-in-None : goal.returns-in-None
returns-in-None g c = λ es way.
    c.ends.ensures
    ∙ ap (λ x. g.M.Marks.marking.ends (place_of g.M.Marks.marking x).top (place_of g.M.Marks.marking x).hidden c.args.value.now)
    (sym (way_none (node_at c.args.tree.now) c.args.parent es way c.in-None.is))

pub returns-in-Some-value : goal.returns-in-Some-value
returns-in-Some-value g c = λ es way.
    let first = way_some (node_at c.args.tree.now) c.args.parent es c.in-Some.p c.in-Some-value.above.now way c.in-Some.is (sym c.value.ensures ∙ ap option_copied c.in-Some-value.is) in
    c.ends-in-Some.ensures
    ∙ (ap (λ b. g.M.Marks.marking.ends false b c.args.value.now) c.hides.ensures
    ∙ ap (λ x. g.M.Marks.marking.ends (place_of g.M.Marks.marking x).top (place_of g.M.Marks.marking x).hidden c.args.value.now) (sym first.whole))
