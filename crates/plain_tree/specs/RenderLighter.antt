-- The render nodes below a render node are fewer than it is.
use Rattle.std.specs.Prelude.{ℕ, ◌+◌, ◌≤◌, List, [], ◌∷◌}
use Rattle.std.proofs.Common.{arith, max}
use denote.Param.Weighed.{most}
use Rattle.widget_model.specs.Look.{Look}
use Rattle.plain_tree.specs.declared.render.ParentData.{ParentData}
use Rattle.plain_tree.specs.Render.{Render, render, renders_of, count_of, counts_of}

below : (rs : List Render) → most (λ r. count_of r + 1) rs ≤ counts_of (renders_of rs) + 1
below [] = omega arith
below (r ∷ rs) = omega (arith, below rs)

pub lighter : (number : ℕ) (l : Look) (d : ParentData) (s c : ℕ) (rs : List Render)
    → max (most (λ r. count_of r + 1) rs) 0 ≤ count_of (render number l d s c (renders_of rs))
lighter number l d s c rs = omega (arith, below rs)
