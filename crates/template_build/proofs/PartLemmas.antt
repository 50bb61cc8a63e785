-- The templates that a member holds: what they give, that they are built, and how deep they are.
use Rattle.std.proofs.Common.{◌≡◌, ℕ, zero, suc, ◌<◌, ◌≤◌, arith, List, [], ◌∷◌, map, length, get_or, Option, Some, None, IfSome, ap}
use denote.Ref.{Bor}
use Rattle.program_check.specs.declared.checked.Body.{Body}
use Rattle.program_check.specs.declared.checked.BodyPart.{BodyPart}
use Rattle.program_check.specs.Body.{bodies_in, body_depth, bodies_depth, part_depth}
use Rattle.program_check.specs.BodyView.{plain_body, plain_body_part}
use Rattle.template_build.specs.Building.{plain_part, depth_in}

pub part_below : (o : Option (Bor BodyPart)) (d : ℕ) → 1 ≤ d → IfSome o (λ p. part_depth (plain_body_part p.now) < d) → depth_in (plain_part o) < d
part_below None d h k = omega arith
part_below (Some p) d h k = k

pub one_depth : (bs : List Body) (i : ℕ) (b : Body) → i < length bs → b ≡ get_or bs i b → body_depth (plain_body b) ≤ bodies_depth (bodies_in (map plain_body bs))
one_depth [] i b h e = absurd (omega arith)
one_depth (c ∷ bs) zero b h e = omega (arith, ap (λ b. body_depth (plain_body b)) e)
one_depth (c ∷ bs) (suc i) b h e = omega (arith, one_depth bs i b (omega arith) e)
