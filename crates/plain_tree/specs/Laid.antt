-- What a layout gives, as nested plain values.
use Rattle.std.specs.Prelude.{ℕ, suc, ◌+◌, List, [], ◌∷◌}
use Rattle.fx_geom.specs.declared.shapes.Offset.{Offset}
use Rattle.widget_model.specs.Look.{Look}
use Rattle.plain_tree.specs.declared.laid.Facts.{Facts}

mutual
  -- a node as a layout leaves it: its number, its kind with its members, what the layout gave to it, and its laid children
  pub data Laid : Type 0 where
    laid : ℕ → Look → Facts → Laids → Laid

  -- laid children, each at its offset from the parent
  pub data Laids : Type 0 where
    no_laids : Laids
    more_laids : Offset → Laid → Laids → Laids

-- a laid child
pub record Stood : Type 0 where
  pub at : Offset
  pub child : Laid

abbrev pub laids_of : List Stood → Laids
laids_of [] = no_laids
laids_of (c ∷ cs) = more_laids c.at c.child (laids_of cs)

abbrev pub list_of : Laids → List Stood
list_of no_laids = []
list_of (more_laids at l ls) = record { at = at; child = l } ∷ list_of ls

-- how many nodes a laid node is, with those below it
abbrev mutual
  pub count_of : Laid → ℕ
  count_of (laid number look facts children) = suc (counts_of children)

  pub counts_of : Laids → ℕ
  counts_of no_laids = 0
  counts_of (more_laids at l ls) = count_of l + counts_of ls
