use Rattle.std.proofs.Common.{◌∙◌, ap, Some, ℤ, w64, ◌-ℤ◌, to_z, of_z}
use Rattle.std.proofs.Math.Facts.{to_z-of_z}
use Rattle.gesture_arena.specs.declared.gesture.ArenaEvent.TheVariants as event
use Rattle.gesture_arena.specs.Effects.{drag_x}
use Rattle.gesture_arena.proofs.arena.update.Goals as goal

pub returns : goal.returns
returns c =
    let m = c.args.member in
    ap (λ (z : ℤ). Some (event.Update m.node m.gesture z (to_z w64 (of_z w64 c.drag_y.result))))
    (to_z-of_z {w = w64} {z = c.drag_x.result} (record { sfits = c.drag_x.type_inv }) ∙ c.drag_x.ensures)
    ∙ ap (λ (z : ℤ). Some (event.Update m.node m.gesture (drag_x m.gesture (c.args.to.x -ℤ c.args.at.x)) z))
    (to_z-of_z {w = w64} {z = c.drag_y.result} (record { sfits = c.drag_y.type_inv }) ∙ c.drag_y.ensures)
