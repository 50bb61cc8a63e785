-- A laid node opened: its parts, and what stands at the places below it.
use Rattle.std.specs.Prelude.{ℕ, Option, Some, None, List, [], ◌∷◌}
use Rattle.fx_geom.specs.declared.shapes.Offset.{Offset}
use Rattle.widget_model.specs.Look.{Look}
use Rattle.plain_tree.specs.declared.laid.Facts.{Facts}
use Rattle.plain_tree.specs.Laid.{Laid, laid, Laids, no_laids, more_laids, Stood}

-- its number, its kind with its members, what the layout gave to it, and its laid children
pub record Opened : Type 0 where
  pub number : ℕ
  pub look : Look
  pub facts : Facts
  pub below : Laids

abbrev pub opened : Laid → Opened
opened (laid number look facts children) = record { number = number; look = look; facts = facts; below = children }

-- the laid children at places, of which some have none
abbrev pub laids_at : List (Option Stood) → Laids
laids_at [] = no_laids
laids_at (None ∷ ps) = laids_at ps
laids_at (Some c ∷ ps) = more_laids c.at c.child (laids_at ps)

-- laid children, each at a place of its own
abbrev pub places_of : Laids → List (Option Stood)
places_of no_laids = []
places_of (more_laids at l ls) = Some (record { at = at; child = l }) ∷ places_of ls

-- how far from its parent a laid child stands
abbrev pub offset_of : Stood → Offset
offset_of c = c.at
