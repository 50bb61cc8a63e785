use Rattle.std.proofs.Common.{◌∙◌, ap, sym}
use Rattle.std.specs.Prelude.{is_some, option_copied}
use Rattle.render_readers.specs.Places.{laid_at}
use Rattle.render_readers.proofs.Reading.{never_none, root_laid}
use Rattle.render_readers.proofs.readers.shown.Goals as goal

pub returns : goal.returns
returns c =
    let t = c.args.r.now.tree in
    root_laid t c.in-Some.root c.in-Some.ensures.holds c.in-Some-object.object.now (sym c.in-Some-object.ensures) (laid_at c.new.result.tree.now.tree c.new.result.at) (sym c.in-Some.ensures.value)
    (ap is_some (sym c.frame.ensures) ∙ c.if-is_none.ensures)
    (λ i. laid_at (c.new.ensures.tree i).tree (c.new.ensures.at i))

pub unreachable-requires : goal.unreachable-requires
unreachable-requires c = never_none c.args.r.now.tree c.in-Some.root c.in-Some.ensures.holds (ap (λ o. option_copied o) (sym c.in_default-object.is) ∙ c.object.ensures)
