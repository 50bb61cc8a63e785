use Rattle.std.proofs.Common.{◌≡◌, Ok, arith, rules}
use Rattle.std.specs.Vec.Iter.{into_iter_items}
use Rattle.json_tree.specs.View.{view, items_view}
use Rattle.program_read.specs.ShapeFault.{each}
use Rattle.program_read.specs.Leaves.{walks}
use Rattle.program_read.proofs.ItemsLemmas.{each-read}
use Rattle.program_read.proofs.lists.read_each.Goals as goal

pub loop-value-preserved : goal.loop-value-preserved
loop-value-preserved g c =
    let walk = g.R.EntryReader.walk c.args.reader.now in
    let plain = g.R.EntryReader.plain in
    let given = c.in_ok-entry.entry in
    let v = c.in-Some.value in
    let read : walk (view v) ≡ Ok (plain given) = search rules in
    each-read walk plain _ v _ _ _ (each 0 (walks walk (items_view (into_iter_items c.into_iter-value-iterator.result)))) c.loop-value.list.items c.push.new.self.items given
    c.in-Some.ensures.steps.0 c.loop-value.invariant read c.in_ok-push.ensures.items (grind arith)
