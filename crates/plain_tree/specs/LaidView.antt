-- The laid children of the program as plain values.
use Rattle.std.specs.Prelude.{List, map}
use Rattle.plain_tree.specs.declared.laid.LaidChild.{LaidChild}
use Rattle.plain_tree.specs.Laid.{Laids, Stood, laids_of}

abbrev pub stood : LaidChild → Stood
stood c = record { at = c.at; child = c.node }

abbrev pub laids_in : List LaidChild → Laids
laids_in cs = laids_of (map stood cs)
