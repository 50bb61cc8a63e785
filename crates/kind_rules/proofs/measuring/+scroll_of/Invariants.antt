use Rattle.plain_tree.specs.Render.{count_of}
use Rattle.kind_rules.proofs.measuring.+scroll_of.Given as goal

abbrev pub decreases-scroll_of : goal.decreases-scroll_of
decreases-scroll_of g l = count_of (g.C.Cursor.stands l.cursor)
