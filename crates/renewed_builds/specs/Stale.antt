-- The component that is to be built anew first, as the elements tell it, and what becomes of its tree.
use Rattle.std.specs.Prelude.{◌≡◌, ℕ, ◌==◌, true, false, Some, List, []}
use Rattle.fx_handles.specs.declared.Handle.{Handle}
use Rattle.node_tree.specs.Tree.{Tree}
use Rattle.widget_model.specs.Plain.{PlainWidget, look_of}
use Rattle.program_check.specs.Checked.{PlainChecked}
use Rattle.plain_tree.specs.PlainNode.{PlainNode, number_of, widget_of, fields_of}
use Rattle.build_form.specs.BuildRole.{build_role_of}
use Rattle.build_form.specs.Entering.{Blueprint, depth_limit, given_by}
use Rattle.build_form.specs.Laws.{NumbersAre}
use Rattle.build_form.specs.Program.{blueprint_of}
use Rattle.build_form.specs.Step.{Progress, Step}
use Rattle.element_tree.specs.Element.{Element, element_at}
use Rattle.work_sets.specs.Due.{names_read}
use Rattle.build_walk.specs.Past.{is_marked}
use Rattle.build_walk.specs.Standing.{ElementsStandFor}
use Rattle.settled_builds.specs.Places.{NodePlace, spot_at}
use Rattle.settled_builds.specs.Rearranged.{drawn_in}
use Rattle.settled_builds.specs.Retaken.{retaken}
use Rattle.settled_builds.specs.Settled.{IsReadyTree, IsSettledFor}
use Rattle.settled_builds.specs.Steps.{IsFirstMarked, IsGivenAt, CanTakeAnew, without}
use Rattle.build_owner.specs.Standing.{next_at}
use Rattle.renewed_builds.specs.Renewing.{Change, can_take_at, renewed_at, changes_at, stored_at}

-- ---- before

-- elements stand for a tree, and the one at a handle is of a component: this is where its node stands
pub record IsComponentAt (c : PlainChecked) (t : Tree Element) (h : Handle) : Type 0 where
  pub marks : List ℕ
  pub tree : PlainNode
  pub scrolled : ℕ → ℕ
  pub stands : ElementsStandFor c marks (Some tree) scrolled t
  pub element : Element
  pub at : element_at t h ≡ Some element
  pub place : NodePlace
  pub spot : spot_at element.number depth_limit (blueprint_of c).defaults 0 0 tree ≡ Some place
  pub names : List ℕ
  pub component : names_read (look_of (widget_of place.node)) ≡ Some names

-- what the body of the component at a spot gives
abbrev pub given_at : Blueprint → NodePlace → Progress → Step (List PlainWidget)
given_at b place s =
    given_by b (build_role_of (look_of (widget_of place.node))) place.values (number_of place.node) (fields_of place.node) (widget_of place.node) s

-- elements stand for a tree that is ready for a root, of which the component whose element is at a handle is marked, and nothing else
pub record IsStaleElement (c : PlainChecked) (t : Tree Element) (h : Handle) : Type 0 where
  pub marks : List ℕ
  pub tree : PlainNode
  pub scrolled : ℕ → ℕ
  pub stands : ElementsStandFor c marks (Some tree) scrolled t
  pub root : PlainWidget
  pub ready : IsReadyTree (blueprint_of c) marks (next_at t) root tree
  pub element : Element
  pub at : element_at t h ≡ Some element
  pub place : NodePlace
  pub first : IsFirstMarked (blueprint_of c) marks element.number tree place
  pub alone : NumbersAre (λ k. is_marked marks k ≡ (k == element.number)) tree

-- ---- after

-- elements that stood for a tree, of which the component with a number was marked alone, stand for the tree in which what is below it took
-- these widgets. Nothing is marked any more, and these are the changes
pub record Renews (c : PlainChecked) (marks : List ℕ) (old : PlainNode) (scrolled : ℕ → ℕ) (t u : Tree Element) (e : ElementsStandFor c marks (Some old) scrolled t) (h : Handle) (wanted : ℕ) (ws : List PlainWidget) (changed : List Change) : Type 0 where
  pub stands : ElementsStandFor c [] (Some (retaken ws wanted old)) scrolled u
  pub can : can_take_at h ws e.forest ≡ true
  pub forest : stands.forest ≡ renewed_at h ws e.forest
  pub changes : changed ≡ changes_at h ws e.forest

-- they stand for the same tree, and the component stores these widgets: it isn't marked any more
pub record StoresGiven (c : PlainChecked) (marks : List ℕ) (old : PlainNode) (scrolled : ℕ → ℕ) (t u : Tree Element) (e : ElementsStandFor c marks (Some old) scrolled t) (h : Handle) (wanted : ℕ) (ws : List PlainWidget) : Type 0 where
  pub stands : ElementsStandFor c (without wanted marks) (Some old) scrolled u
  pub forest : stands.forest ≡ stored_at h ws e.forest

-- what is below the component took what its body gave, in any order: then the tree is settled, and no number of it is marked. Each node that
-- changed has a render node, and these are the changes
pub record IsRenewed (c : PlainChecked) (t u : Tree Element) (h : Handle) (x : IsStaleElement c t h) (changed : List Change) : Type 0 where
  pub given : List PlainWidget
  pub can : CanTakeAnew (blueprint_of c) given x.place
  pub drawn : drawn_in given x.place.node ≡ true
  pub settled : IsSettledFor (blueprint_of c) (without x.element.number x.marks) x.root (retaken given x.element.number x.tree)
  pub renews : Renews c x.marks x.tree x.scrolled t u x.stands h x.element.number given changed

-- what is below it can't take that, and the component stores it
pub record IsLeftToBuild (c : PlainChecked) (t u : Tree Element) (h : Handle) (x : IsStaleElement c t h) : Type 0 where
  pub given : List PlainWidget
  pub is : IsGivenAt (blueprint_of c) given x.place
  pub cannot : can_take_at h given x.stands.forest ≡ false
  pub stores : StoresGiven c x.marks x.tree x.scrolled t u x.stands h x.element.number given
