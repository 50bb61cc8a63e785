-- The items of a lazy list between the phases: those of the last frame, without what the first phase's tree claims.
use Rattle.std.specs.Prelude.{◌≡◌, ℕ, Bool, true, false, ◌||◌, Some, List}
use Rattle.fx_handles.specs.declared.Handle.{Handle}
use Rattle.node_tree.specs.Forest.{Forest, Stands, pruned}
use Rattle.node_tree.specs.Forest.Forest.{none, tree}
use Rattle.node_tree.specs.Tree.{Tree, node_at}
use Rattle.plain_tree.specs.Render.{Renders}
use Rattle.tree_marks.specs.Marks.{listed}
use Rattle.render_tree.specs.Object.{RenderObject, object_look}
use Rattle.render_tree.specs.Tree.{object_at}
use Rattle.render_sync.specs.Renders.{AllNumbers}
use Rattle.build_walk.specs.Changing.{render_over}
use Rattle.work_roles.specs.Place.{RegionPlace, below}
use Rattle.work_sets.specs.Before.{Before}
use Rattle.work_sets.specs.InTree.{standing}
use Rattle.counted_phases.specs.Framed.{HaveFrames}
use Rattle.counted_phases.specs.Outer.{ListOr}

-- some of these trees is claimed
abbrev pub some_claimed : (Handle → Bool) → Forest RenderObject → Bool
some_claimed claimed none = false
some_claimed claimed (tree h o kids rest) = claimed h || some_claimed claimed rest

-- of the nodes that are left, the listed ones lost a child to the first phase's tree
abbrev pub AreBereft : (Handle → Bool) → List Handle → Forest RenderObject → Type 0
AreBereft claimed hs none = Unit {0}
AreBereft claimed hs (tree h o kids rest) =
    ListOr (claimed h) (Unit {0}) ((listed h hs ≡ true → some_claimed claimed kids ≡ true) × AreBereft claimed hs kids) × AreBereft claimed hs rest

-- what is claimed has none of these numbers
abbrev pub IsUnclaimed : Tree RenderObject → (Handle → Bool) → ℕ → Type 0
IsUnclaimed old claimed number = (h : Handle) (o : RenderObject) → object_at old h ≡ Some o → o.number ≡ number → claimed h ≡ false

abbrev pub AreUnclaimed : Tree RenderObject → (Handle → Bool) → Renders → Type 0
AreUnclaimed old claimed rs = AllNumbers (IsUnclaimed old claimed) rs

-- each node stands where the last frame's tree has it, the first ones at this place
abbrev pub AreStanding : Before → RegionPlace → Forest RenderObject → Type 0
AreStanding before p none = Unit {0}
AreStanding before p (tree h o kids rest) =
    (standing before.tree o.number ≡ Some (record { place = p; node = render_over o kids })) × AreStanding before (below p (object_look o)) kids × AreStanding before p rest

-- the items that stood below a list in the last frame, without what is claimed, are those that it has
pub record AreLeftItems (before : Before) (old : Tree RenderObject) (claimed : Handle → Bool) (number : ℕ) (kids : Forest RenderObject) : Type 0 where
  pub place : RegionPlace
  pub handle : Handle
  pub list : RenderObject
  pub items : Forest RenderObject
  pub number_is : list.number ≡ number
  pub stood : standing before.tree number ≡ Some (record { place = place; node = render_over list items })
  pub stands : Stands (node_at old) (Some handle) items
  pub places : AreStanding before (below place (object_look list)) items
  pub frames : HaveFrames before.frames items
  pub left : kids ≡ pruned claimed items
