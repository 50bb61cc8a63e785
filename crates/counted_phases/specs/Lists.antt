-- The lazy lists of the whole build, each with the items that were left between the phases.
use Rattle.std.specs.Prelude.{◌≡◌, Bool, true, false, Option, Some, List}
use Rattle.fx_handles.specs.declared.Handle.{Handle}
use Rattle.node_tree.specs.Forest.{Forest, tops, Stands, pruned}
use Rattle.node_tree.specs.Forest.Forest.{none, tree}
use Rattle.node_tree.specs.Tree.{Tree, node_at, children_at}
use Rattle.tree_marks.specs.Marks.{sweep}
use Rattle.layout_walk.specs.Rules.{is_list}
use Rattle.render_tree.specs.Marks.{layout_marks}
use Rattle.render_tree.specs.Object.{RenderObject, object_look}
use Rattle.render_tree.specs.Plain.{renders_of}
use Rattle.render_tree.specs.Tree.{object_at}
use Rattle.work_roles.specs.Place.{RegionPlace, at_root, below}
use Rattle.work_sets.specs.Region.{Judge, is_inside, reaches_out}
use Rattle.build_walk.specs.Changing.{render_over}
use Rattle.counted_work.specs.Inside.{marks_above}
use Rattle.counted_phases.specs.Framed.{AllAsBefore}
use Rattle.counted_phases.specs.Left.{AreBereft, AreUnclaimed}
use Rattle.counted_phases.specs.Outer.{UnlessList, ListOr}

-- what is stored at a handle has this node's number, and has to be laid out as it does; it is in the window only where that is
pub record IsSeenAt (stored : Option RenderObject) (o : RenderObject) : Type 0 where
  pub object : RenderObject
  pub is : stored ≡ Some object
  pub number : object.number ≡ o.number
  pub flag : object.needs_layout ≡ o.needs_layout
  pub shown : object.shown ≡ true → o.shown ≡ true

-- so it is of each of these nodes
abbrev pub AreSeen : Tree RenderObject → Forest RenderObject → Type 0
AreSeen t none = Unit {0}
AreSeen t (tree h o kids rest) = IsSeenAt (object_at t h) o × AreSeen t kids × AreSeen t rest

-- the items that the list with this number had in the last frame, but for what is claimed, were left with their marks; those that are
-- listed lost a child; and its items now are in the window, and have to be laid out, as these were
pub record IsListLeft (old ranged : Tree RenderObject) (claimed : Handle → Bool) (hs : List Handle) (p : RegionPlace) (w : RenderObject) (under : Forest RenderObject) : Type 0 where
  pub left : (h : Handle) (o : RenderObject) (kids : Forest RenderObject) → object_at old h ≡ Some o → o.number ≡ w.number → Stands (node_at old) (Some h) kids → tops kids ≡ children_at old h
      → AreSeen ranged (sweep layout_marks true hs (marks_above (below p (object_look w))) (pruned claimed kids)) × AreBereft claimed hs kids
  pub alike : AllAsBefore ranged under
  pub free : AreUnclaimed old claimed (renders_of under)

-- so it is of each list that isn't among the items of another one
abbrev pub ListsLeft : Tree RenderObject → Tree RenderObject → (Handle → Bool) → List Handle → RegionPlace → Forest RenderObject → Type 0
ListsLeft old ranged claimed hs p none = Unit {0}
ListsLeft old ranged claimed hs p (tree k w under rest) =
    ListOr (is_list (object_look w)) (IsListLeft old ranged claimed hs p w under) (ListsLeft old ranged claimed hs (below p (object_look w)) under) × ListsLeft old ranged claimed hs p rest

-- a node whose number one had before is in the window as that was
abbrev pub IsShownAsBefore : Tree RenderObject → RenderObject → Type 0
IsShownAsBefore old w = (h : Handle) (o : RenderObject) → object_at old h ≡ Some o → o.number ≡ w.number → w.shown ≡ o.shown

module _ (judge : Judge) where
  -- so is each outer node, but for those right below a node of the region
  abbrev pub ShownAsBefore : Tree RenderObject → Bool → RegionPlace → Forest RenderObject → Type 0
  ShownAsBefore old above p none = Unit {0}
  ShownAsBefore old above p (tree k w under rest) =
      (above ≡ false → IsShownAsBefore old w)
      × UnlessList (is_list (object_look w)) (ShownAsBefore old (is_inside judge above p (render_over w under)) (below p (object_look w)) under) × ShownAsBefore old above p rest

  -- the same below a root
  abbrev pub RootShownAsBefore : Tree RenderObject → Forest RenderObject → Type 0
  RootShownAsBefore old none = Unit {0}
  RootShownAsBefore old (tree k w under rest) =
      UnlessList (is_list (object_look w)) (ShownAsBefore old (is_inside judge (reaches_out judge at_root (render_over w under)) at_root (render_over w under)) (below at_root (object_look w)) under)
