-- What it is that a widget was inflated where nothing stood before.
use Rattle.std.specs.Prelude.{◌≡◌, ℕ, ◌+◌, ◌≤◌, true, false, Option, Some, None, List, [], ◌∷◌}
use Rattle.fx_expr.specs.declared.values.Value.{Value}
use Rattle.fx_handles.specs.declared.Handle.{Handle}
use Rattle.node_tree.specs.Forest.{Forest}
use Rattle.node_tree.specs.Forest.Forest.{none, tree}
use Rattle.node_tree.specs.Children.{Keeps}
use Rattle.node_tree.specs.Mounting.{put_last}
use Rattle.node_tree.specs.Tree.{Tree, Is}
use Rattle.widget_model.specs.Plain.{PlainWidget}
use Rattle.widget_model.specs.Plain.{children_of as child_widgets}
use Rattle.plain_tree.specs.Projection.{told_at}
use Rattle.plain_tree.specs.RenderRole.{vanishes}
use Rattle.build_form.specs.Entering.{Blueprint, Opening, first}
use Rattle.build_form.specs.FullBuild.{basis}
use Rattle.build_form.specs.Partner.{arrival}
use Rattle.build_form.specs.Step.{Progress, gives, each}
use Rattle.element_tree.specs.Element.{Element, element_at, made_count}
use Rattle.element_tree.specs.Nodes.{nodes_of}
use Rattle.global_keys.specs.Holders.{Registry, recorded, is_met}
use Rattle.global_keys.specs.Named.{NamesExactly}
use Rattle.render_tree.specs.Object.{RenderObject}
use Rattle.render_tree.specs.Tree.{object_at}
use Rattle.build_walk.specs.Entered.{IsElementFor}
use Rattle.build_walk.specs.Keeping.{reopened, reenter}
use Rattle.build_walk.specs.Kept.{node_over}
use Rattle.build_walk.specs.Past.{Pasts}
use Rattle.build_walk.specs.Renewing.{AllGoOn, AreDrawn, role_of}
use Rattle.build_walk.specs.Telling.{StoreOutputs}
use Rattle.build_walk.specs.Walked.{WalkPlace}
use Rattle.build_owner.specs.Making.{MakesNodes}
use Rattle.build_owner.specs.Ready.{HasRoom}
use Rattle.first_builds.specs.Mounted.{drawn_object, mounted, first_arrivals, StayStored, StayDrawn}
use Rattle.first_builds.specs.Scattered.{scattered}

-- how far the definition's walk has come, where so many widgets were entered
abbrev pub progress_at : ℕ → Registry → Tree Element → Progress
progress_at entered g t = record { entered = entered; met = λ k. is_met g k; next = made_count t + 1; waiting = [] }

-- no node with such a number, or a later one, is scrolled
abbrev pub IsUnscrolled : ℕ → (ℕ → ℕ) → Type 0
IsUnscrolled n scrolled = (m : ℕ) → n ≤ m → scrolled m ≡ 0

-- the child widgets of a widget: the one that its body gave, or those that it has
abbrev pub given_of : PlainWidget → Option PlainWidget → List PlainWidget
given_of w None = child_widgets w
given_of w (Some below) = below ∷ []

-- a widget was opened, and its element and its render node, if it has one, were mounted: nothing is below it yet
pub record IsMounted (b : Blueprint) (pasts : Pasts) (values : List Value) (scrolled : ℕ → ℕ) (at : WalkPlace) (w : PlainWidget) (place : ℕ) (before after : Progress)
    (t0 t : Tree Element) (r0 r : Tree RenderObject) (h : Handle) (output : Option PlainWidget) (k : Option Handle) : Type 0 where
  pub opening : Opening
  pub is : reopened (basis b None) pasts values (arrival w place None) before ≡ gives opening after
  pub partner : opening.partner ≡ None
  pub given : opening.given ≡ given_of w output
  pub element : Element
  pub for : IsElementFor scrolled (arrival w place None) opening element
  pub clean : element.dirty ≡ false
  pub stored : element_at t h ≡ Some element
  pub absent : element_at t0 h ≡ None
  pub render : element.render ≡ k
  pub unseen : vanishes (role_of element) ≡ true → k ≡ None
  pub seen : vanishes (role_of element) ≡ false
      → (j : Handle) × (k ≡ Some j) × (object_at r j ≡ Some (drawn_object element (told_at at.role at.told place))) × (object_at r0 j ≡ None)
  pub elements : (f : Forest Element) → Is t0 f → Is t (put_last at.parent (tree h element none none) f)
  pub renders : (d : Forest RenderObject) → Is r0 d → Is r (put_last at.above (mounted at.role at.told (tree h element none none)) d)

-- where so many widgets were entered, both trees have room for all that may be entered yet; and the registry names exactly the elements
-- that have a global key, each of which was met
pub record IsReadyToMount (limit entered : ℕ) (g : Registry) (t : Tree Element) (r : Tree RenderObject) : Type 0 where
  pub room : HasRoom limit entered t r
  pub names : NamesExactly g t
  pub met : (k : Value) → is_met g k ≡ false → recorded g k ≡ None

-- nodes were made, each in its place: what was stored stays stored, new render nodes have the numbers of new elements, and no node is
-- inactive that wasn't
pub record HasGrown (t0 t : Tree Element) (r0 r : Tree RenderObject) : Type 0 where
  pub stay : StayStored t0 t
  pub stay_drawn : StayDrawn r0 r
  pub makes : MakesNodes (made_count t0) (made_count t) (scattered r0) (scattered r)
  pub keeps : Keeps (scattered r0) (scattered r)
  pub inactive : t.inactive ≡ t0.inactive
  pub inactive_drawn : r.inactive ≡ r0.inactive

-- a widget was inflated, with all that is below it
pub record IsInflated (b : Blueprint) (pasts : Pasts) (left : ℕ) (values : List Value) (scrolled : ℕ → ℕ) (at : WalkPlace) (w : PlainWidget) (place : ℕ) (before after : Progress)
    (t0 t : Tree Element) (r0 r : Tree RenderObject) (h : Handle) : Type 0 where
  pub value : Element
  pub kids : Forest Element
  pub is : reenter (basis b None) pasts first left values (arrival w place None) before ≡ gives (node_over scrolled value kids) after
  pub go_on : AllGoOn (element_at t) (tree h value kids none)
  pub drawn : AreDrawn (object_at r) scrolled (tree h value kids none)
  pub stored : StoreOutputs scrolled (tree h value kids none)
  pub elements : (f : Forest Element) → Is t0 f → Is t (put_last at.parent (tree h value kids none) f)
  pub renders : (d : Forest RenderObject) → Is r0 d → Is r (put_last at.above (mounted at.role at.told (tree h value kids none)) d)

-- and widgets one after another
pub record AreInflated (b : Blueprint) (pasts : Pasts) (left : ℕ) (values : List Value) (scrolled : ℕ → ℕ) (at : WalkPlace) (ws : List PlainWidget) (place : ℕ) (before after : Progress)
    (t0 t : Tree Element) (r0 r : Tree RenderObject) : Type 0 where
  pub kids : Forest Element
  pub is : each (reenter (basis b None) pasts first left values) (first_arrivals place ws) before ≡ gives (nodes_of scrolled kids) after
  pub go_on : AllGoOn (element_at t) kids
  pub drawn : AreDrawn (object_at r) scrolled kids
  pub stored : StoreOutputs scrolled kids
  pub elements : (f : Forest Element) → Is t0 f → Is t (put_last at.parent kids f)
  pub renders : (d : Forest RenderObject) → Is r0 d → Is r (put_last at.above (mounted at.role at.told kids) d)
