use Rattle.std.proofs.Common.{◌≡◌, subst, List, refl}
use Rattle.gesture_arena.specs.Moment.{Pointer, cancel}
use Rattle.gesture_arena.specs.Pointers.{is_down, after, one_gets}
use Rattle.gesture_arena.specs.StandsFor.{StandsFor}
use Rattle.gesture_arena.proofs.Whole.{without-after}
use Rattle.gesture_arena.proofs.pointers.Pointers.cancel.Goals as goal

pub returns-then-not-is_down-clause-is_up : goal.returns-then-not-is_down-clause-is_up
returns-then-not-is_down-clause-is_up c s ps a =
    let e : c.is_down.result ≡ is_down c.args.pointer ps = c.is_down.ensures s ps a in
    (λ _. cc, λ _. refl)

pub returns-clause-is_up : goal.returns-clause-is_up
returns-clause-is_up c s ps a =
    let e : c.is_down.result ≡ is_down c.args.pointer ps = c.is_down.ensures s ps a in
    (λ t. cc, λ t. cc)

pub returns-clause-stands : goal.returns-clause-stands
returns-clause-stands c s ps a =
    let P : List Pointer → Type 0 = λ qs. StandsFor c.remove.new.self s qs in
    subst P (without-after c.args.pointer cancel ps) (c.remove.ensures.stands s (after (one_gets c.args.pointer cancel) ps) (c.meet.ensures.stands s ps a))
