use Rattle.std.proofs.Common.{◌≡◌, ◌++◌, drop}
use Rattle.layout_form.specs.Frames.{item_places}
use Rattle.kind_rules.proofs.slivers.item_places.Given as goal

abbrev pub invariant-loop-i : goal.invariant-loop-i
invariant-loop-i l = l.places.items ++ item_places l.b l.extent (drop l.i l.indices) (drop l.i l.frames) ≡ item_places l.b l.extent l.indices l.frames
