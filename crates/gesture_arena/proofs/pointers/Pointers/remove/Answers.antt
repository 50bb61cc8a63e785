use Rattle.std.proofs.Common.{sym, subst, List}
use Rattle.gesture_arena.specs.declared.held.HeldPointer.{HeldPointer}
use Rattle.gesture_arena.specs.Pointers.{without}
use Rattle.gesture_arena.specs.Stored.{AllStand}
use Rattle.gesture_arena.proofs.Whole.{others-stand}
use Rattle.gesture_arena.proofs.pointers.Pointers.remove.Goals as goal

pub returns-clause-stands : goal.returns-clause-stands
returns-clause-stands c s ps a =
    let P : List HeldPointer → Type 0 = λ hs. AllStand s hs (without c.args.pointer ps) in
    record { scale = a.scale; pointers = subst P (sym c.let_go.ensures.items) (others-stand s c.args.pointer c.args.self.now.held.items ps a.pointers) }
