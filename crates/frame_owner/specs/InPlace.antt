-- What is built in place: the component that is marked, and where its body gives an Inherit another value, those that read it.
use Rattle.std.specs.Prelude.{◌≡◌, ◌⊎◌, ℕ, ◌+◌, true, Some, None, List, [], ◌∷◌, map}
use Rattle.fx_handles.specs.declared.Handle.{Handle}
use Rattle.fx_handles.specs.Handle.{AreDistinct}
use Rattle.node_tree.specs.Forest.{Forest, tops}
use Rattle.node_tree.specs.Tree.{Tree, children_at, subtree_at}
use Rattle.widget_model.specs.Plain.{look_of}
use Rattle.widget_model.specs.Plain.{children_of as child_widgets}
use Rattle.reconcile.specs.Matching.{matching}
use Rattle.plain_tree.specs.PlainNode.{PlainNode}
use Rattle.plain_tree.specs.Projection.{render_of}
use Rattle.plain_tree.specs.Render.{renders_of}
use Rattle.program_check.specs.Checked.{PlainChecked}
use Rattle.build_form.specs.FullBuild.{Screen, full_build, first_tree}
use Rattle.build_form.specs.Program.{blueprint_of}
use Rattle.element_tree.specs.Element.{Element, element_at, number_at}
use Rattle.global_keys.specs.Holders.{Registry}
use Rattle.global_keys.specs.Named.{NamesExactly}
use Rattle.work_sets.specs.Work.{made_first}
use Rattle.build_walk.specs.Standing.{ElementsStandFor, all_builds}
use Rattle.settled_builds.specs.Looks.{NewLook, new_look, look_after}
use Rattle.settled_builds.specs.Places.{HasNoGlobals}
use Rattle.settled_builds.specs.Rearranged.{NewOrder, all_rearranged, order_after}
use Rattle.settled_builds.specs.Settled.{IsSettledFor}
use Rattle.settled_builds.specs.Steps.{Leads}
use Rattle.build_owner.specs.Standing.{next_at}
use Rattle.renewed_builds.specs.Renewing.{Change, widgets_in, takes_in_place, can_take_drawn, places_of, order_of}
use Rattle.renewed_builds.specs.Several.{IsStaleTree, KeepsElements, AreLeft}
use Rattle.renewed_builds.specs.Regiving.{IsToRegive, IsRegiven, name_given}
use Rattle.renewed_builds.specs.Stale.{IsStaleElement, IsLeftToBuild}

-- ---- elements

-- elements go on from others: each is one of these, and has its number, and the same names stand for them
pub record ElementsGoOn (t u : Tree Element) : Type 0 where
  pub elements : KeepsElements t u
  pub numbers : (k : Handle) → number_at u k ≡ number_at t k
  pub names : (g : Registry) → NamesExactly g t → NamesExactly g u

-- a change is of an element that takes a widget, whose children take those of the widget, in an order that the number of its node tells
pub record IsToldChange (t : Tree Element) (c : Change) (l : NewLook) (o : NewOrder) : Type 0 where
  pub element : Element
  pub stored : element_at t c.element ≡ Some element
  pub named : element.render ≡ Some c.at
  pub takes : takes_in_place element c.widget ≡ true
  pub kids : Forest Element
  pub below : children_at t c.element ≡ tops kids
  pub can : can_take_drawn kids (child_widgets c.widget) ≡ true
  pub look : l ≡ new_look element.number (look_of c.widget)
  pub order : c.order ≡ order_of (places_of (matching (widgets_in kids) (child_widgets c.widget)))
  pub places : o ≡ record { number = element.number; places = matching (widgets_in kids) (child_widgets c.widget) }

-- so it is of each change of a list, in step with the looks and the orders
abbrev pub AreToldChanges : Tree Element → List Change → List NewLook → List NewOrder → Type 0
AreToldChanges t [] [] [] = Unit {0}
AreToldChanges t [] [] (o ∷ os) = ⊥
AreToldChanges t [] (l ∷ ls) os = ⊥
AreToldChanges t (c ∷ cs) [] os = ⊥
AreToldChanges t (c ∷ cs) (l ∷ ls) [] = ⊥
AreToldChanges t (c ∷ cs) (l ∷ ls) (o ∷ os) = IsToldChange t c l o × AreToldChanges t cs ls os

-- ---- the whole

-- Steps, as many as builds are counted, lead to a tree that is settled for the root, and the elements stand for it. Its render nodes are those
-- of the tree that was, but for these changes; before them alone an Inherit may have taken another value, which changes none
pub record BuildsInPlace (c : PlainChecked) (t u : Tree Element) (h : Handle) (x : IsStaleElement c t h) (changes : List Change) (builds_before builds_after : ℕ) : Type 0 where
  pub marks : List ℕ
  pub given : PlainNode
  pub at : Tree Element
  pub given_stands : ElementsStandFor c marks (Some given) x.scrolled at
  pub goes_on : ElementsGoOn t at
  pub alike : render_of given ≡ render_of x.tree
  pub tree : PlainNode
  pub left : List ℕ
  pub builds : ℕ
  pub counted : builds_after ≡ builds_before + builds
  pub leads : Leads (blueprint_of c) (next_at t) x.root x.tree x.marks tree left builds
  pub settled : IsSettledFor (blueprint_of c) left x.root tree
  pub keyless : HasNoGlobals tree
  pub stands : ElementsStandFor c [] (Some tree) x.scrolled u
  pub elements : KeepsElements at u
  pub looks : List NewLook
  pub orders : List NewOrder
  pub told : AreToldChanges at changes looks orders
  pub once : AreDistinct (map (λ c. c.element) changes)
  pub drawn : render_of tree ≡ all_rearranged (look_after looks) (order_after orders) (renders_of (render_of given))

-- What could be built in place was: a build from the tree for which the elements stand then comes to the same, in both phases, and builds so many
-- components less. Its render nodes are those of the tree that was
pub record LeavesInPlace (c : PlainChecked) (t u : Tree Element) (h : Handle) (x : IsStaleElement c t h) (builds_before builds_after : ℕ) : Type 0 where
  pub tree : PlainNode
  pub left : List ℕ
  pub stands : ElementsStandFor c left (Some tree) x.scrolled u
  pub elements : KeepsElements t u
  pub alike : render_of tree ≡ render_of x.tree
  pub full : (screen : Screen) → full_build (blueprint_of c) screen (Some x.tree) (next_at t) x.root ≡ full_build (blueprint_of c) screen (Some tree) (next_at t) x.root
  pub first : (screen : Screen) → made_first (blueprint_of c) screen (Some x.tree) (first_tree (blueprint_of c) (Some x.tree) (next_at t) x.root)
      ≡ made_first (blueprint_of c) screen (Some tree) (first_tree (blueprint_of c) (Some tree) (next_at t) x.root)
  pub builds : (screen : Screen) → builds_after + all_builds (blueprint_of c) screen (Some tree) left (next_at t) x.root
      ≡ builds_before + all_builds (blueprint_of c) screen (Some x.tree) x.marks (next_at t) x.root

-- what is below the component can't take what its body gave, and that isn't another value of the Inherit there; or else one of those that read
-- it gave what those below it can't take where they stand
pub record AreLeftToBuild (c : PlainChecked) (mid u : Tree Element) (h : Handle) : Type 0 where
  pub at : Tree Element
  pub readers : List Handle
  pub x : IsToRegive c mid h
  pub regiven : IsRegiven c mid at h x readers
  pub stale : IsStaleTree c at readers
  pub built : ℕ
  pub left : AreLeft c at u readers stale built

pub record CannotBuildInPlace (c : PlainChecked) (t u : Tree Element) (h : Handle) (x : IsStaleElement c t h) : Type 0 where
  pub mid : Tree Element
  pub first : IsLeftToBuild c t mid h x
  pub why : ((name_given (subtree_at mid h) ≡ None) × (u ≡ mid)) ⊎ AreLeftToBuild c mid u h
