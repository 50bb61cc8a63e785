use Rattle.std.proofs.Common.{◌∙◌, ap, sym}
use Rattle.std.specs.Prelude.{option_copied}
use Rattle.render_tree.specs.Plain.{offset_or}
use Rattle.render_readers.proofs.Reading.{never_none, offset_hidden, offset_shown}
use Rattle.render_readers.proofs.place.child_offset.Goals as goal

pub returns-then-not-shown : goal.returns-then-not-shown
returns-then-not-shown c =
    offset_hidden c.args.tree.now.tree c.args.h c.requires c.in-Some.object.now (sym c.in-Some.ensures) (sym c.shown.ensures ∙ c.if-not-shown.true)

pub returns : goal.returns
returns c =
    offset_shown c.args.tree.now.tree c.args.h c.requires c.in-Some.object.now (sym c.in-Some.ensures) c.offset_or.result
    (sym c.shown.ensures ∙ c.if-not-shown.false) (c.offset_or.ensures ∙ ap offset_or c.offset.ensures)

pub unreachable-requires : goal.unreachable-requires
unreachable-requires c = never_none c.args.tree.now.tree c.args.h c.requires (ap (λ o. option_copied o) (sym c.in_default.is) ∙ c.object.ensures)
