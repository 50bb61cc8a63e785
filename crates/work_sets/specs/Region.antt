-- The layout region of a render tree: all that stands at or below the nearest firm boundary at or above a changed node.
use Rattle.std.specs.Prelude.{ℕ, Bool, false, not, ◌&&◌, ◌||◌, if◌then◌else◌, List, [], ◌∷◌, ◌++◌}
use Rattle.plain_tree.specs.Render.{Render, render, Renders, no_renders, more_renders}
use Rattle.work_roles.specs.Place.{RegionPlace, at_root, below}

-- which nodes of a tree are firm boundaries, and which are changed, each at its place
pub record Judge : Type 0 where
  pub is_firm : RegionPlace → Render → Bool
  pub is_changed : RegionPlace → Render → Bool

module _ (judge : Judge) where
  abbrev mutual
    -- a changed node at or below one has no firm boundary at or above it up to this one
    pub reaches_out : RegionPlace → Render → Bool
    reaches_out p (render number look told scroll count children) =
        (judge.is_changed p (render number look told scroll count children) || some_reaches_out (below p look) children)
        && not (judge.is_firm p (render number look told scroll count children))

    pub some_reaches_out : RegionPlace → Renders → Bool
    some_reaches_out p no_renders = false
    some_reaches_out p (more_renders r rs) = reaches_out p r || some_reaches_out p rs

  -- a node is changed, or a changed node below it has no firm boundary at or above it up to here
  abbrev pub is_reached : RegionPlace → Render → Bool
  is_reached p (render number look told scroll count children) =
      judge.is_changed p (render number look told scroll count children) || some_reaches_out (below p look) children

  -- a node is in the region where the one above is, and where it is the nearest firm boundary of a changed node
  abbrev pub is_inside : Bool → RegionPlace → Render → Bool
  is_inside above p r = above || (judge.is_firm p r && is_reached p r)

  -- the numbers of the nodes of a tree that are in the region, where the node above the tree is in it or isn't
  abbrev mutual
    pub region_in : Bool → RegionPlace → Render → List ℕ
    region_in above p (render number look told scroll count children) =
        let inside = is_inside above p (render number look told scroll count children) in
        (if inside then number ∷ [] else []) ++ region_below inside (below p look) children

    pub region_below : Bool → RegionPlace → Renders → List ℕ
    region_below above p no_renders = []
    region_below above p (more_renders r rs) = region_in above p r ++ region_below above p rs

  -- where a changed node has no firm boundary at or above it, the region is the whole tree
  abbrev pub region_of : Render → List ℕ
  region_of root = region_in (reaches_out at_root root) at_root root
