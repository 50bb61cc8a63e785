use Rattle.std.proofs.Common.{ap, ◌∙◌, Option, arith}
use Rattle.render_tree.specs.Object.{RenderObject}
use Rattle.layout_rules.specs.Painting.{PaintedOwn, PaintedPlace}
use Rattle.layout_rules.specs.Reads.{state_or}
use Rattle.layout_rules.proofs.laws.layouts_look_as_listed.Goals as goal

pub returns-clause-frames : goal.returns-clause-frames
returns-clause-frames c = λ old new hs k o repaints at none.
    ap (λ (p : PaintedOwn). p.frame) (repaints.same k none).own ∙ ap (λ (m : Option RenderObject). (state_or m).frame) at

pub returns-clause-places : goal.returns-clause-places
returns-clause-places e = λ old new hs k c o repaints at among none.
    let place = (repaints.same k none).places c among in (
      ap (λ (p : PaintedPlace). p.offset) place ∙ ap (λ (m : Option RenderObject). (state_or m).offset) at,
      ap (λ (p : PaintedPlace). p.shown) place ∙ ap (λ (m : Option RenderObject). (state_or m).shown) at,
    )

pub returns-clause-caused : goal.returns-clause-caused
returns-clause-caused e = λ old new hs k repaints few among. repaints.other k (omega (arith, few, among))
