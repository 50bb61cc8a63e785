use Rattle.plain_tree.specs.Render.{count_of}
use Rattle.kind_rules.proofs.measuring.+box_below.Given as goal

abbrev pub decreases-box_below : goal.decreases-box_below
decreases-box_below g l = count_of (g.C.Cursor.stands l.cursor)
