use Rattle.std.proofs.Common.{◌≡◌, refl}
use Rattle.gesture_arena.specs.Pointers.{is_down}
use Rattle.gesture_arena.proofs.pointers.Pointers.moved.Goals as goal

pub returns-then-not-is_down-clause-is_up : goal.returns-then-not-is_down-clause-is_up
returns-then-not-is_down-clause-is_up c s ps a =
    let e : c.is_down.result ≡ is_down c.args.pointer ps = c.is_down.ensures s ps a in
    (λ _. cc, λ _. refl)

pub returns-clause-is_up : goal.returns-clause-is_up
returns-clause-is_up c s ps a =
    let e : c.is_down.result ≡ is_down c.args.pointer ps = c.is_down.ensures s ps a in
    (λ t. cc, λ t. cc)
