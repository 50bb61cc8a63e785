use Rattle.std.proofs.Common.{◌≡◌, ◌∙◌, ap, sym, arith, ◌<◌, length}
use Rattle.widget_model.specs.Look.{Look}
use Rattle.kind_rules.specs.Below.{holding_of}
use Rattle.kind_rules.specs.Cursor.{look_of, children_of}
use Rattle.kind_rules.proofs.Trees.{child_fewer}
use Rattle.kind_rules.proofs.Chains.{none_below, box_here, box_further, box_nowhere}
use Rattle.kind_rules.proofs.measuring.+box_below.Goals as goal

pub returns-then-len-eq0 : goal.returns-then-len-eq0
returns-then-len-eq0 g t c = none_below c.args.axis c.args.cross (g.C.Cursor.stands c.args.cursor) (sym c.len.ensures ∙ c.if-len-eq0.true)

pub returns-in-Neither : goal.returns-in-Neither
returns-in-Neither g t c =
    box_nowhere c.args.axis c.args.cross (g.C.Cursor.stands c.args.cursor)
    (sym c.in-Neither.is ∙ c.holding_of.ensures ∙ ap (λ (x : Look). holding_of x c.args.axis c.args.cross) c.kind.ensures)

pub returns-in-Box : goal.returns-in-Box
returns-in-Box g t c =
    let r = g.C.Cursor.stands c.args.cursor in
    let low : 0 < length (children_of r) = omega (arith, c.if-len-eq0.false, c.len.ensures) in
    box_here c.args.axis c.args.cross r (g.C.Cursor.stands c.child.result) c.in-Box.bounds
    (sym c.in-Box.is ∙ c.holding_of.ensures ∙ ap (λ (x : Look). holding_of x c.args.axis c.args.cross) c.kind.ensures) low c.child.ensures

pub box_below-requires : goal.box_below-requires
box_below-requires g t c κs within =
    let r = g.C.Cursor.stands c.args.cursor in
    let k = g.C.Cursor.stands c.child-in-Sliver.result in
    let low : 0 < length (children_of r) = omega (arith, c.if-len-eq0.false, c.len.ensures) in
    (omega (arith, child_fewer r 0 k low c.child-in-Sliver.ensures, c.decreases), within)

pub returns-in-Sliver : goal.returns-in-Sliver
returns-in-Sliver g t c =
    let r = g.C.Cursor.stands c.args.cursor in
    let low : 0 < length (children_of r) = omega (arith, c.if-len-eq0.false, c.len.ensures) in
    c.box_below.ensures
    ∙ box_further c.args.axis c.args.cross c.in-Sliver.inner r (g.C.Cursor.stands c.child-in-Sliver.result)
    (sym c.in-Sliver.is ∙ c.holding_of.ensures ∙ ap (λ (x : Look). holding_of x c.args.axis c.args.cross) c.kind.ensures) low c.child-in-Sliver.ensures
