-- An Inherit that takes another value in its place, as the elements tell it: the component above it stores it, and each component below it
-- that reads its name is flagged.
use Rattle.std.specs.Prelude.{◌≡◌, ℕ, ◌==◌, Bool, false, not, ◌&&◌, if◌then◌else◌, Option, Some, None, List, [], ◌∷◌, ◌++◌}
use Rattle.fx_expr.specs.Value.{value_eq}
use Rattle.fx_handles.specs.declared.Handle.{Handle}
use Rattle.node_tree.specs.Forest.{Forest}
use Rattle.node_tree.specs.Forest.Forest.{none, tree}
use Rattle.node_tree.specs.Tree.{Tree}
use Rattle.widget_model.specs.Plain.{PlainWidget, look_of}
use Rattle.widget_model.specs.Plain.{children_of as child_widgets}
use Rattle.widget_model.specs.Update.{updates}
use Rattle.program_check.specs.Checked.{PlainChecked}
use Rattle.plain_tree.specs.PlainNode.{PlainNode}
use Rattle.plain_tree.specs.Projection.{render_of}
use Rattle.build_form.specs.BuildRole.{BuildRole, provides, build_role_of}
use Rattle.build_form.specs.Laws.{NumbersAre}
use Rattle.build_form.specs.Program.{blueprint_of}
use Rattle.element_tree.specs.Element.{Element, number_at}
use Rattle.work_sets.specs.Members.{is_same_widget}
use Rattle.build_walk.specs.Past.{is_marked}
use Rattle.build_walk.specs.Standing.{ElementsStandFor}
use Rattle.settled_builds.specs.Places.{NodePlace}
use Rattle.settled_builds.specs.Regiven.{readers_in, regiven, ReadTheirNames, CanRegive}
use Rattle.settled_builds.specs.Settled.{IsReadyTree}
use Rattle.settled_builds.specs.Steps.{Leads, IsFirstMarked, without}
use Rattle.settled_builds.specs.Taken.{nodes_below}
use Rattle.build_owner.specs.Standing.{next_at}
use Rattle.renewed_builds.specs.Several.{flagged_in}

-- ---- which Inherit can take another value

-- the name to which the one role gives a value, where the other one gives it another value
abbrev pub name_between : BuildRole → BuildRole → Option ℕ
name_between (provides name was) (provides k now) = if (k == name) && not (value_eq was now) then Some name else None
name_between was now = None

-- both lists are one widget, and that is the same
abbrev pub are_one : List PlainWidget → List PlainWidget → Bool
are_one (v ∷ []) (w ∷ []) = is_same_widget v w
are_one vs ws = false

-- the name of an Inherit that can be updated to another one, which has the same child and gives another value
abbrev pub name_regiven : PlainWidget → PlainWidget → Option ℕ
name_regiven v w =
    if updates v w && are_one (child_widgets v) (child_widgets w)
    then name_between (build_role_of (look_of v)) (build_role_of (look_of w))
    else None

-- so it is of the one element of a forest, and of what may be stored
abbrev pub name_given_by : Option PlainWidget → Forest Element → Option ℕ
name_given_by None f = None
name_given_by (Some w) none = None
name_given_by (Some w) (tree h e kids none) = name_regiven e.widget w
name_given_by (Some w) (tree h e kids (tree k v low rest)) = None

-- and of what the first element of a forest stores, and the one element right below it
abbrev pub name_given : Forest Element → Option ℕ
name_given none = None
name_given (tree h e kids rest) = name_given_by e.output kids

-- ---- before

-- elements stand for a tree that was ready for a root, of which the component with the number of the one at a handle was marked, and nothing
-- else. It was built since, what its body gave is stored there, and no element is flagged any more
pub record IsToRegive (c : PlainChecked) (t : Tree Element) (h : Handle) : Type 0 where
  pub marks : List ℕ
  pub tree : PlainNode
  pub scrolled : ℕ → ℕ
  pub number : ℕ
  pub at : number_at t h ≡ Some number
  pub stands : ElementsStandFor c (without number marks) (Some tree) scrolled t
  pub root : PlainWidget
  pub ready : IsReadyTree (blueprint_of c) marks (next_at t) root tree
  pub place : NodePlace
  pub first : IsFirstMarked (blueprint_of c) marks number tree place
  pub alone : NumbersAre (λ k. is_marked marks k ≡ (k == number)) tree

-- ---- after

-- the numbers that are marked then
abbrev pub marks_then : ℕ → List ℕ → ℕ → PlainNode → List ℕ
marks_then number marks name child = without number marks ++ readers_in name (nodes_below child)

-- the Inherit below the component has taken the widget that the component stores: they stand for the tree in which it has it. The readers of its
-- name below it are marked, and these handles are theirs. Nothing that is laid out is another one
pub record IsRegiven (c : PlainChecked) (t u : Tree Element) (h : Handle) (x : IsToRegive c t h) (hs : List Handle) : Type 0 where
  pub given : PlainWidget
  pub name : ℕ
  pub can : CanRegive (blueprint_of c) given name x.place
  pub reads : ReadTheirNames (blueprint_of c) x.tree
  pub stands : ElementsStandFor c (marks_then x.number x.marks name can.child) (Some (regiven given x.number x.tree)) x.scrolled u
  pub flagged : flagged_in stands.forest ≡ hs
  pub ready : IsReadyTree (blueprint_of c) (marks_then x.number x.marks name can.child) (next_at u) x.root (regiven given x.number x.tree)
  pub leads : Leads (blueprint_of c) (next_at t) x.root x.tree x.marks (regiven given x.number x.tree) (marks_then x.number x.marks name can.child) 1
  pub drawn : render_of (regiven given x.number x.tree) ≡ render_of x.tree
