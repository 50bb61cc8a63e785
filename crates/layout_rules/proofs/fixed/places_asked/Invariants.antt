use Rattle.std.proofs.Common.{◌≡◌, ◌++◌, drop}
use Rattle.node_tree.specs.Tree.{children_at}
use Rattle.layout_form.specs.Framed.{last_asks}
use Rattle.layout_form.specs.Frames.{item_places}
use Rattle.layout_form.specs.SliverRule.{counted}
use Rattle.kind_rules.specs.Few.{items_of}
use Rattle.layout_rules.specs.Reads.{frames_at}
use Rattle.layout_rules.proofs.fixed.places_asked.Given as goal

abbrev pub invariant-loop-i : goal.invariant-loop-i
invariant-loop-i l =
    let t = l.r.tree in
    let asks = last_asks (items_of l.first) (items_of l.rest) in
    let hs = children_at t l.fn.h in
    l.places.items ++ item_places l.b l.extent (counted l.i (drop l.i hs)) (frames_at t (drop l.i asks) (drop l.i hs)) ≡ item_places l.b l.extent (counted 0 hs) (frames_at t asks hs)
