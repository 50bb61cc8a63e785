use Rattle.std.proofs.Common.{◌∙◌, ap, sym}
use Rattle.std.specs.Prelude.{option_copied}
use Rattle.render_tree.specs.Plain.{offset_or}
use Rattle.render_readers.specs.Places.{laid_at}
use Rattle.render_readers.proofs.Reading.{never_none, place_shown}
use Rattle.render_readers.proofs.place.child_place.Goals as goal

pub returns : goal.returns
returns c =
    let t = c.args.tree.now.tree in
    place_shown t c.args.h c.requires c.in-Some.object.now (sym c.in-Some.ensures) c.offset_or-at.result (laid_at c.new.result.tree.now.tree c.new.result.at)
    (sym c.shown.ensures ∙ c.if-not-shown.false) (c.offset_or-at.ensures ∙ ap offset_or c.offset.ensures)
    (λ i. laid_at (c.new.ensures.tree i).tree (c.new.ensures.at i))

pub unreachable-requires : goal.unreachable-requires
unreachable-requires c = never_none c.args.tree.now.tree c.args.h c.requires (ap (λ o. option_copied o) (sym c.in_default.is) ∙ c.object.ensures)
