use Rattle.render_tree.specs.MarkLaws.{layout_lawful, paint_lawful}
use Rattle.render_tree.proofs.LayoutParts.{layout_whole, layout_are_parts}
use Rattle.render_tree.proofs.laws.render_marks_are_marks.Goals as goal

pub returns : goal.returns
returns c = record { layout = layout_lawful; paint = paint_lawful; whole = layout_whole; parts = layout_are_parts }
