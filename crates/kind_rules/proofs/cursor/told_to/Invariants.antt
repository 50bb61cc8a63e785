use Rattle.std.proofs.Common.{◌≡◌, ◌++◌, map, drop}
use Rattle.layout_form.specs.Fits.{data_of}
use Rattle.kind_rules.specs.Cursor.{children_of}
use Rattle.kind_rules.proofs.cursor.told_to.Given as goal

abbrev pub invariant-loop-i : goal.invariant-loop-i
invariant-loop-i g l = l.told.items ++ map data_of (drop l.i (children_of (g.C.Cursor.stands l.cursor))) ≡ map data_of (children_of (g.C.Cursor.stands l.cursor))
