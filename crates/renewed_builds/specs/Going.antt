-- A component that is built anew, before any element takes a widget.
use Rattle.std.specs.Prelude.{◌≡◌, Bool, true, false, Some, List, [], ◌∷◌, ◌++◌}
use Rattle.fx_handles.specs.declared.Handle.{Handle}
use Rattle.node_tree.specs.Forest.{Forest, below}
use Rattle.node_tree.specs.Tree.{Tree, Is, subtree_at}
use Rattle.widget_model.specs.Plain.{PlainWidget}
use Rattle.program_check.specs.Checked.{PlainChecked}
use Rattle.build_form.specs.Program.{blueprint_of}
use Rattle.element_tree.specs.Element.{Element, element_at}
use Rattle.element_tree.specs.Nodes.{IsLike}
use Rattle.settled_builds.specs.Steps.{IsGivenAt}
use Rattle.renewed_builds.specs.Renewing.{Change, changes_of, stored_at}
use Rattle.renewed_builds.specs.Stale.{IsComponentAt}
use Rattle.renewed_builds.specs.Several.{can_take_still}

-- elements show what they showed, and have their render nodes: flags and outputs alone may be others
abbrev pub KeepsNodes : Tree Element → Tree Element → Type 0
KeepsNodes t u = (k : Handle) (v : Element) → element_at u k ≡ Some v → (e : Element) × (element_at t k ≡ Some e) × IsLike e v × (v.render ≡ e.render)

-- a component was built anew, and what its body gave is stored; where those below it can take that, what changes is gathered
pub record IsStepped (c : PlainChecked) (t u : Tree Element) (h : Handle) (x : IsComponentAt c t h) (before after : List Change) (can : Bool) : Type 0 where
  pub widget : PlainWidget
  pub given : IsGivenAt (blueprint_of c) (widget ∷ []) x.place
  pub stored : (f : Forest Element) → Is t f → Is u (stored_at h (widget ∷ []) f)
  pub can_is : can ≡ can_take_still (below (subtree_at u h)) (widget ∷ [])
  pub changes : can ≡ true → after ≡ before ++ changes_of (below (subtree_at u h)) (widget ∷ [])
