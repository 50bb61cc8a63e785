-- The walk of all entries is what was read so far, and the walk of those that are left.
use Rattle.std.proofs.Common.{◌≡◌, length, map}
use Rattle.std.specs.Vec.Iter.{into_iter_items}
use Rattle.json_tree.specs.View.{items_view}
use Rattle.program_read.specs.ShapeFault.{each}
use Rattle.program_read.specs.Leaves.{walks}
use Rattle.program_read.proofs.WalkLemmas.{resumed}
use Rattle.program_read.proofs.lists.read_each.Given as goal

abbrev pub invariant-loop-value : goal.invariant-loop-value
invariant-loop-value g l =
    each 0 (walks (g.R.EntryReader.walk l.fn.reader) (items_view (into_iter_items l.initial.value-iterator)))
    ≡ resumed (map g.R.EntryReader.plain l.list.items) (each (length l.list.items) (walks (g.R.EntryReader.walk l.fn.reader) (items_view (into_iter_items l.value-iterator))))
