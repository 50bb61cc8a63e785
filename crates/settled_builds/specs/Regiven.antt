-- An Inherit that gives another value in its place: the components that read its name there are to be built anew.
use Rattle.std.specs.Prelude.{◌≡◌, ℕ, ◌<◌, ◌==◌, Bool, true, false, if◌then◌else◌, Option, Some, None, List, [], ◌∷◌, ◌++◌, length}
use Rattle.std.specs.List.{list_any}
use Rattle.fx_expr.specs.declared.values.Value.{Value}
use Rattle.fx_expr.specs.Value.{value_eq}
use Rattle.widget_model.specs.Plain.{PlainWidget, look_of}
use Rattle.widget_model.specs.Plain.{children_of as child_widgets}
use Rattle.widget_model.specs.Update.{updates}
use Rattle.plain_tree.specs.At.{changed_at}
use Rattle.plain_tree.specs.PlainNode.{PlainNode, node, PlainNodes, no_nodes, more_nodes, widget_of}
use Rattle.build_form.specs.BuildRole.{BuildRole, composes, provides, keeps, lists, holds, build_role_of}
use Rattle.build_form.specs.Entering.{Blueprint}
use Rattle.work_sets.specs.Due.{names_read}
use Rattle.build_walk.specs.Fresh.{ReadsItsNames}
use Rattle.settled_builds.specs.Places.{NodePlace}
use Rattle.settled_builds.specs.Retaken.{over}
use Rattle.settled_builds.specs.Steps.{IsGivenAt}
use Rattle.settled_builds.specs.Taken.{nodes_below}

-- ---- in its place

-- a node that has another widget, and nodes of which the first one has
abbrev pub having_widget : PlainWidget → PlainNode → PlainNode
having_widget w (node number widget fields scroll index children) = node number w fields scroll index children

abbrev pub first_having : PlainWidget → PlainNodes → PlainNodes
first_having w no_nodes = no_nodes
first_having w (more_nodes n ns) = more_nodes (having_widget w n) ns

-- the tree in which the first node below the one with a number has another widget
abbrev pub regiven : PlainWidget → ℕ → PlainNode → PlainNode
regiven w wanted tree = changed_at (over (first_having w)) wanted tree

-- ---- who reads a name

abbrev pub is_read : ℕ → Option (List ℕ) → Bool
is_read name None = false
is_read name (Some names) = list_any (λ k. k == name) names

abbrev pub is_given : ℕ → BuildRole → Bool
is_given name (composes place props) = false
is_given name (provides k value) = k == name
is_given name (keeps kept) = false
is_given name (lists extent) = false
is_given name holds = false

-- the components of a tree that read a name where it has the value that it has above the tree: none of another Inherit of the name
abbrev mutual
  pub readers_of : ℕ → PlainNode → List ℕ
  readers_of name (node number widget fields scroll index children) =
      (if is_read name (names_read (look_of widget)) then number ∷ [] else []) ++ (if is_given name (build_role_of (look_of widget)) then [] else readers_in name children)

  pub readers_in : ℕ → PlainNodes → List ℕ
  readers_in name no_nodes = []
  readers_in name (more_nodes n ns) = readers_of name n ++ readers_in name ns

-- what a component gives depends on the names alone that it reads: so it is of each widget of a tree
abbrev mutual
  pub ReadTheirNames : Blueprint → PlainNode → Type 0
  ReadTheirNames b (node number widget fields scroll index children) = ReadsItsNames b widget × AllReadTheirNames b children

  pub AllReadTheirNames : Blueprint → PlainNodes → Type 0
  AllReadTheirNames b no_nodes = Unit {0}
  AllReadTheirNames b (more_nodes n ns) = ReadTheirNames b n × AllReadTheirNames b ns

-- ---- at a spot

-- the body of the component at a spot gives one widget there, an Inherit, of the name, the key and the child of the one Inherit below the
-- component, and it gives another value
pub record CanRegive (b : Blueprint) (w : PlainWidget) (name : ℕ) (p : NodePlace) : Type 0 where
  pub given : IsGivenAt b (w ∷ []) p
  pub child : PlainNode
  pub below : nodes_below p.node ≡ more_nodes child no_nodes
  pub was : Value
  pub was_given : build_role_of (look_of (widget_of child)) ≡ provides name was
  pub now : Value
  pub now_given : build_role_of (look_of w) ≡ provides name now
  pub other : value_eq was now ≡ false
  pub known : name < length b.defaults
  pub key : updates (widget_of child) w ≡ true
  pub same : child_widgets w ≡ child_widgets (widget_of child)
