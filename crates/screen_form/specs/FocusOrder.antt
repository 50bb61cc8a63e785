-- Which detectors of a laid tree can have the focus, in the order of reading.
use Rattle.std.specs.Prelude.{ℕ, List, [], ◌∷◌, ◌++◌, map}
use Rattle.std.specs.BTreeSet.{insert_key}
use Rattle.fx_geom.specs.Offset.{offset_sum, origin}
use Rattle.fx_geom.specs.declared.shapes.Offset.{Offset}
use Rattle.plain_tree.specs.Laid.{Laid, laid, Laids, no_laids, more_laids}
use Rattle.screen_form.specs.declared.spot.Spot.{Spot}
use Rattle.screen_form.specs.declared.focus_role.FocusRole.{FocusRole}
use Rattle.screen_form.specs.declared.focus_role.FocusRole.TheVariants.{Hides, TakesFocus, Passes}
use Rattle.screen_form.specs.Spot.{spot_cmp}
use Rattle.screen_form.specs.FocusRole.{focus_role}

abbrev pub spot_at : ℕ → Offset → Spot
spot_at number at = record { y = at.y; x = at.x; number = number }

-- a node's own spot and those below it, by what it is to the focus
abbrev pub spots_by : FocusRole → Spot → List Spot → List Spot
spots_by Hides own below = []
spots_by TakesFocus own below = own ∷ below
spots_by Passes own below = below

-- the spots of a node that stands at a point of the view, and of those below it, in preorder
unfoldable mutual
  pub spots_of : Laid → Offset → List Spot
  spots_of (laid number look facts children) at =
      spots_by (focus_role look facts.frame) (spot_at number at) (spots_in children at)

  -- of nodes that stand in one at a point
  pub spots_in : Laids → Offset → List Spot
  spots_in no_laids at = []
  spots_in (more_laids by l ls) at = spots_of l (offset_sum at by) ++ spots_in ls at

-- spots put, one after another, at their places among those that are in order
abbrev pub put_in : List Spot → List Spot → List Spot
put_in placed [] = placed
put_in placed (s ∷ ss) = put_in (insert_key spot_cmp placed s) ss

abbrev pub number_of : Spot → ℕ
number_of s = s.number

-- the numbers of the detectors that can have the focus, in the order of reading
abbrev pub focus_order_of : Laid → List ℕ
focus_order_of root = map number_of (put_in [] (spots_of root origin))
