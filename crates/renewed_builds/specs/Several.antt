-- Several components that are to be built anew, as the elements tell them, and what becomes of their tree.
use Rattle.std.specs.Prelude.{◌≡◌, ℕ, ◌+◌, Bool, true, false, ◌&&◌, not, is_some, if◌then◌else◌, Option, Some, None, List, [], ◌∷◌, ◌++◌, map, length, slice_get}
use Rattle.std.specs.List.{All, list_all}
use Rattle.fx_handles.specs.declared.Handle.{Handle}
use Rattle.fx_handles.specs.Handle.{AreDistinct}
use Rattle.node_tree.specs.Forest.{Forest, below, map_values}
use Rattle.node_tree.specs.Forest.Forest.{none, tree}
use Rattle.node_tree.specs.Tree.{Tree, subtree_at}
use Rattle.widget_model.specs.Plain.{PlainWidget}
use Rattle.widget_model.specs.Update.{IsSameType}
use Rattle.reconcile.specs.Matching.{matching}
use Rattle.program_check.specs.Checked.{PlainChecked}
use Rattle.plain_tree.specs.PlainNode.{PlainNode, PlainNodes, list_of, widget_of, nodes_of as listed}
use Rattle.plain_tree.specs.Projection.{render_of}
use Rattle.plain_tree.specs.Render.{renders_of}
use Rattle.build_form.specs.Entering.{depth_limit}
use Rattle.build_form.specs.FullBuild.{Screen}
use Rattle.build_form.specs.Program.{blueprint_of}
use Rattle.element_tree.specs.Element.{Element, element_at}
use Rattle.element_tree.specs.Nodes.{nodes_of}
use Rattle.build_walk.specs.Standing.{ElementsStandFor, all_builds}
use Rattle.settled_builds.specs.Looks.{NewLook, look_after}
use Rattle.settled_builds.specs.Places.{NodePlace, spot_at}
use Rattle.settled_builds.specs.Rearranged.{NewOrder, order_after, all_rearranged, each_looks, each_order}
use Rattle.settled_builds.specs.Retaken.{gathered}
use Rattle.settled_builds.specs.Settled.{IsReadyTree, IsSettledFor}
use Rattle.settled_builds.specs.Steps.{Leads, IsGivenAt}
use Rattle.build_owner.specs.Standing.{next_at}
use Rattle.renewed_builds.specs.declared.taking.Moved.{Moved}
use Rattle.renewed_builds.specs.Renewing.{Change, can_take_drawn, changes_of, moves_of, stored_at}
use Rattle.renewed_builds.specs.Taking.{after_changes}

-- ---- before

-- the elements of a forest that are flagged, in preorder
abbrev pub flagged_in : Forest Element → List Handle
flagged_in none = []
flagged_in (tree h e kids rest) = (if e.dirty then h ∷ [] else []) ++ (flagged_in kids ++ flagged_in rest)

-- elements stand for a tree that is ready for a root, and these are the flagged ones, in preorder
pub record IsStaleTree (c : PlainChecked) (t : Tree Element) (hs : List Handle) : Type 0 where
  pub marks : List ℕ
  pub tree : PlainNode
  pub scrolled : ℕ → ℕ
  pub stands : ElementsStandFor c marks (Some tree) scrolled t
  pub root : PlainWidget
  pub ready : IsReadyTree (blueprint_of c) marks (next_at t) root tree
  pub flagged : flagged_in stands.forest ≡ hs

-- ---- what they take

-- a component whose element is at a handle, and what its body gave
pub record Given : Type 0 where
  pub at : Handle
  pub widgets : List PlainWidget

-- a change leaves children where they are
abbrev pub keeps_order : Change → Bool
keeps_order c = not (is_some c.order)

abbrev pub are_none : List Moved → Bool
are_none [] = true
are_none (m ∷ ms) = false

-- the elements of a forest can take these widgets, and stand then where they stood, with all below them
abbrev pub can_take_still : Forest Element → List PlainWidget → Bool
can_take_still f ws = can_take_drawn f ws && (list_all keeps_order (changes_of f ws) && are_none (moves_of f ws))

-- what is below each of these components can take what is given so
abbrev pub CanTake : Tree Element → Given → Type 0
CanTake t g = can_take_still (below (subtree_at t g.at)) g.widgets ≡ true

-- which elements change then, one component after another
abbrev pub all_changes : Tree Element → List Given → List Change
all_changes t [] = []
all_changes t (g ∷ gs) = changes_of (below (subtree_at t g.at)) g.widgets ++ all_changes t gs

-- the looks and the orders of their nodes
abbrev pub looks_below : (ℕ → ℕ) → Forest Element → List PlainWidget → List NewLook
looks_below scrolled f ws =
    gathered (each_looks (listed (nodes_of scrolled f))) 0 ws (matching (map widget_of (list_of (listed (nodes_of scrolled f)))) ws)

abbrev pub orders_below : (ℕ → ℕ) → Forest Element → List PlainWidget → List NewOrder
orders_below scrolled f ws =
    gathered (each_order (listed (nodes_of scrolled f))) 0 ws (matching (map widget_of (list_of (listed (nodes_of scrolled f)))) ws)

abbrev pub all_looks : (ℕ → ℕ) → Tree Element → List Given → List NewLook
all_looks scrolled t [] = []
all_looks scrolled t (g ∷ gs) = looks_below scrolled (below (subtree_at t g.at)) g.widgets ++ all_looks scrolled t gs

abbrev pub all_orders : (ℕ → ℕ) → Tree Element → List Given → List NewOrder
all_orders scrolled t [] = []
all_orders scrolled t (g ∷ gs) = orders_below scrolled (below (subtree_at t g.at)) g.widgets ++ all_orders scrolled t gs

-- the forest where each of them stores what its body gave, and isn't to be built anew
abbrev pub all_stored : List Given → Forest Element → Forest Element
all_stored [] f = f
all_stored (g ∷ gs) f = all_stored gs (stored_at g.at g.widgets f)

-- ---- after

-- elements keep their numbers and render nodes, and the types of their widgets
abbrev pub KeepsElements : Tree Element → Tree Element → Type 0
KeepsElements t u =
    (k : Handle) (v : Element) → element_at u k ≡ Some v
    → (e : Element) × (element_at t k ≡ Some e) × (v.render ≡ e.render) × (v.number ≡ e.number) × IsSameType e.widget v.widget

-- what is below each component took what its body gave, where it stood: then the elements stand for the tree to which the steps lead, which is
-- settled, and nothing is flagged. These are the changes, and what is laid out has these looks: no order is another one
pub record AreRenewed (c : PlainChecked) (t u : Tree Element) (hs : List Handle) (x : IsStaleTree c t hs) (changed : List Change) : Type 0 where
  pub new : PlainNode
  pub left : List ℕ
  pub leads : Leads (blueprint_of c) (next_at t) x.root x.tree x.marks new left (length hs)
  pub ready : IsReadyTree (blueprint_of c) left (next_at t) x.root new
  pub settled : IsSettledFor (blueprint_of c) left x.root new
  pub stands : ElementsStandFor c [] (Some new) x.scrolled u
  pub keeps : KeepsElements t u
  pub given : List Given
  pub of : map (λ g. g.at) given ≡ hs
  pub can : All (CanTake t) given
  pub changes : changed ≡ all_changes t given
  pub differ : AreDistinct (map (λ k. k.element) changed)
  pub forest : stands.forest ≡ map_values (after_changes changed) (all_stored given x.stands.forest)
  pub drawn : render_of new ≡ all_rearranged (look_after (all_looks x.scrolled t given)) (order_after (all_orders x.scrolled t given)) (renders_of (render_of x.tree))

-- so many were built, the last one of which gave what those below it can't take where they stand: each stores what its body gave, nothing is
-- taken, and the rest is left to build
pub record AreLeft (c : PlainChecked) (t u : Tree Element) (hs : List Handle) (x : IsStaleTree c t hs) (built : ℕ) : Type 0 where
  pub left : List ℕ
  pub stands : ElementsStandFor c left (Some x.tree) x.scrolled u
  pub keeps : KeepsElements t u
  pub count : (screen : Screen)
      → all_builds (blueprint_of c) screen (Some x.tree) x.marks (next_at t) x.root ≡ built + all_builds (blueprint_of c) screen (Some x.tree) left (next_at t) x.root
  pub before : ℕ
  pub built_is : built ≡ before + 1
  pub at : Handle
  pub nth : slice_get hs before ≡ Some at
  pub element : Element
  pub there : element_at t at ≡ Some element
  pub place : NodePlace
  pub spot : spot_at element.number depth_limit (blueprint_of c).defaults 0 0 x.tree ≡ Some place
  pub given : List PlainWidget
  pub is : IsGivenAt (blueprint_of c) given place
  pub cannot : can_take_still (below (subtree_at t at)) given ≡ false
