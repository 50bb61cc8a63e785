use Rattle.std.proofs.Common.{arith, ◌<◌, length}
use Rattle.kind_rules.specs.Cursor.{children_of}
use Rattle.kind_rules.proofs.Trees.{child_fewer}
use Rattle.kind_rules.proofs.measuring.+scroll_of.Goals as goal

pub scroll_of-requires : goal.scroll_of-requires
scroll_of-requires g t c κs within =
    let r = g.C.Cursor.stands c.args.cursor in
    let k = g.C.Cursor.stands c.child.result in
    let low : 0 < length (children_of r) = omega (arith, c.if-len-eq0-2.false, c.len-in-SliverPadding.ensures) in
    (omega (arith, child_fewer r 0 k low c.child.ensures, c.decreases), within)
