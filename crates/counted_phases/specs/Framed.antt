-- Frames of outer nodes between the phases, and of all nodes once the whole build stands.
use Rattle.std.specs.Prelude.{◌≡◌, Bool, true, Some}
use Rattle.fx_handles.specs.declared.Handle.{Handle}
use Rattle.node_tree.specs.Forest.{Forest}
use Rattle.node_tree.specs.Forest.Forest.{none, tree}
use Rattle.node_tree.specs.Tree.{Tree}
use Rattle.layout_walk.specs.Rules.{is_list}
use Rattle.render_tree.specs.Object.{RenderObject, object_look}
use Rattle.render_tree.specs.Tree.{object_at}
use Rattle.work_roles.specs.Place.{RegionPlace, at_root, below}
use Rattle.work_sets.specs.Before.{Frames}
use Rattle.work_sets.specs.Region.{Judge, is_inside, reaches_out}
use Rattle.build_walk.specs.Changing.{render_over}
use Rattle.counted_work.specs.Inside.{FlagsInside}
use Rattle.counted_phases.specs.Outer.{UnlessList, ListOr}

-- each node has the frame that the layouts so far left of its number
abbrev pub HaveFrames : Frames → Forest RenderObject → Type 0
HaveFrames frames none = Unit {0}
HaveFrames frames (tree h o kids rest) = (o.frame ≡ frames o.number) × HaveFrames frames kids × HaveFrames frames rest

-- so has each outer one
abbrev pub OuterHaveFrames : Frames → Forest RenderObject → Type 0
OuterHaveFrames frames none = Unit {0}
OuterHaveFrames frames (tree h o kids rest) = (o.frame ≡ frames o.number) × UnlessList (is_list (object_look o)) (OuterHaveFrames frames kids) × OuterHaveFrames frames rest

-- and each that is below a list
abbrev pub ItemsHaveFrames : Frames → Forest RenderObject → Type 0
ItemsHaveFrames frames none = Unit {0}
ItemsHaveFrames frames (tree h o kids rest) = ListOr (is_list (object_look o)) (HaveFrames frames kids) (ItemsHaveFrames frames kids) × ItemsHaveFrames frames rest

-- a node whose number one had before is in the window, and has to be laid out, as that was
abbrev pub IsAsBefore : Tree RenderObject → RenderObject → Type 0
IsAsBefore t w = (h : Handle) (o : RenderObject) → object_at t h ≡ Some o → o.number ≡ w.number → (w.shown ≡ o.shown) × (w.needs_layout ≡ o.needs_layout)

-- so it is of the outer ones
abbrev pub OuterAsBefore : Tree RenderObject → Forest RenderObject → Type 0
OuterAsBefore t none = Unit {0}
OuterAsBefore t (tree k w under rest) = IsAsBefore t w × UnlessList (is_list (object_look w)) (OuterAsBefore t under) × OuterAsBefore t rest

-- and of all nodes
abbrev pub AllAsBefore : Tree RenderObject → Forest RenderObject → Type 0
AllAsBefore t none = Unit {0}
AllAsBefore t (tree k w under rest) = IsAsBefore t w × AllAsBefore t under × AllAsBefore t rest

-- a node of the whole build that was there between the phases
pub record IsOuterKept (o w : RenderObject) : Type 0 where
  pub shown : w.shown ≡ o.shown
  pub flag : w.needs_layout ≡ o.needs_layout
  pub frame : w.frame ≡ o.frame
  pub look : object_look w ≡ object_look o

-- so it is of the outer ones
abbrev pub AreKept : Forest RenderObject → Forest RenderObject → Type 0
AreKept none none = Unit {0}
AreKept none (tree k w under rest) = ⊥
AreKept (tree h o kids more) none = ⊥
AreKept (tree h o kids more) (tree k w under rest) = IsOuterKept o w × UnlessList (is_list (object_look o)) (AreKept kids under) × AreKept more rest

module _ (judge : Judge) where
  -- each node below a list that is in the window and has to be laid out is in the region, where the list is in the window
  abbrev pub ItemsInside : Bool → RegionPlace → Forest RenderObject → Type 0
  ItemsInside above p none = Unit {0}
  ItemsInside above p (tree h o kids rest) =
      let inside = is_inside judge above p (render_over o kids) in
      (o.shown ≡ true → ListOr (is_list (object_look o)) (FlagsInside judge inside (below p (object_look o)) kids) (ItemsInside inside (below p (object_look o)) kids)) × ItemsInside above p rest

  -- the same of a root's tree, of which the root counts as in the window
  abbrev pub RootItemsInside : Forest RenderObject → Type 0
  RootItemsInside none = Unit {0}
  RootItemsInside (tree h o kids rest) =
      let inside = is_inside judge (reaches_out judge at_root (render_over o kids)) at_root (render_over o kids) in
      ListOr (is_list (object_look o)) (FlagsInside judge inside (below at_root (object_look o)) kids) (ItemsInside inside (below at_root (object_look o)) kids)
