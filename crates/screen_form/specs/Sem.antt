-- A semantics tree, as nested plain values.
use Rattle.std.specs.Prelude.{ℕ, ◌+◌, Bool, Option, List, [], ◌∷◌}
use Rattle.fx_geom.specs.declared.shapes.Rect.{Rect}

mutual
  -- a semantics node: the number of the node that it stands for, 0 for the view; where it stands in the view; its label;
  -- whether it is a button; the number of the detector that does a tap, and of that which does a long press; and the nodes
  -- below it
  pub data Sem : Type 0 where
    sem : ℕ → Rect → List ℕ → Bool → Option ℕ → Option ℕ → Sems → Sem

  -- semantics nodes in paint order
  pub data Sems : Type 0 where
    no_sems : Sems
    more_sems : Sem → Sems → Sems

abbrev pub sems_of : List Sem → Sems
sems_of [] = no_sems
sems_of (s ∷ ss) = more_sems s (sems_of ss)

-- how many nodes a node is, with those below it
abbrev mutual
  pub count_of : Sem → ℕ
  count_of (sem id rect label button tap long children) = 1 + counts_of children

  pub counts_of : Sems → ℕ
  counts_of no_sems = 0
  counts_of (more_sems s ss) = count_of s + counts_of ss

abbrev pub total : List Sem → ℕ
total [] = 0
total (s ∷ ss) = count_of s + total ss
