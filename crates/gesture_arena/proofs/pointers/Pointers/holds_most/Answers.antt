use Rattle.std.proofs.Common.{◌≡◌, length, arith}
use Rattle.std.proofs.lemmas.Bool.Decides.{nat_tests}
use Rattle.gesture_arena.proofs.Whole.{length-stand}
use Rattle.gesture_arena.proofs.pointers.Pointers.holds_most.Goals as goal

pub returns-clause-value : goal.returns-clause-value
returns-clause-value c s ps a =
    let e : length c.args.self.now.held.items ≡ length ps = length-stand s c.args.self.now.held.items ps a.pointers in
    (λ t. grind (arith, nat_tests), λ h. grind (arith, nat_tests))
