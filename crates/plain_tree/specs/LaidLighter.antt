-- The laid nodes below a laid node are fewer than it is.
use Rattle.std.specs.Prelude.{ℕ, ◌+◌, ◌≤◌, List, [], ◌∷◌}
use Rattle.std.proofs.Common.{arith, max}
use denote.Param.Weighed.{most}
use Rattle.widget_model.specs.Look.{Look}
use Rattle.plain_tree.specs.declared.laid.Facts.{Facts}
use Rattle.plain_tree.specs.declared.laid.LaidChild.{LaidChild}
use Rattle.plain_tree.specs.Laid.{laid, count_of, counts_of}
use Rattle.plain_tree.specs.LaidView.{laids_in}

below : (cs : List LaidChild) → most (λ (c : LaidChild). max (count_of c.node + 1) 0) cs ≤ counts_of (laids_in cs) + 1
below [] = omega arith
below (c ∷ cs) = omega (arith, below cs)

pub lighter : (number : ℕ) (l : Look) (f : Facts) (cs : List LaidChild)
    → max (most (λ (c : LaidChild). max (count_of c.node + 1) 0) cs) 0 ≤ count_of (laid number l f (laids_in cs))
lighter number l f cs = omega (arith, below cs)
