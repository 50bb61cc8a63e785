-- Which nodes a plan changes, against the tree before it, for layout and for painting: those that are to be marked once it is
-- committed.
use Rattle.std.specs.Prelude.{◌≡◌, ◌⊎◌, ◌∷◌, ◌++◌, [], true, false, Bool, List, Option, Some, None, IfSome}
use Rattle.fx_handles.specs.declared.Handle.{Handle}
use Rattle.node_tree.specs.Tree.{Tree, children_at}
use Rattle.node_tree.specs.Plan.{PlanEntry}
use Rattle.work_roles.specs.WorkRole.{is_offstage}
use Rattle.tree_marks.specs.Marks.{listed}
use Rattle.render_tree.specs.Object.{RenderObject, object_look}
use Rattle.render_tree.specs.Redraw.{Redraw, redrawn}
use Rattle.render_tree.specs.Tree.{object_at}
use Rattle.render_tree.specs.Marks.{layout_own, layout_told}

-- the node keeps the list of its children
abbrev pub KeepsList : Tree RenderObject → PlanEntry Redraw → Type 0
KeepsList t e = e.children ≡ children_at t e.at

-- a layout reads the same of the node itself
abbrev pub KeepsOwn : Tree RenderObject → PlanEntry Redraw → Type 0
KeepsOwn t e = (o : RenderObject) → object_at t e.at ≡ Some o → layout_own (redrawn e.update o) ≡ layout_own o

-- a node is an Offstage that is offstage, as it was before the plan
abbrev pub hides_in : Option RenderObject → Bool
hides_in None = false
hides_in (Some o) = is_offstage (object_look o)

abbrev pub hides_at : Tree RenderObject → Option Handle → Bool
hides_at t None = false
hides_at t (Some h) = hides_in (object_at t h)

-- its parent takes the same of it beside its frame
abbrev pub KeepsTold : Tree RenderObject → PlanEntry Redraw → Type 0
KeepsTold t e = (o : RenderObject) → object_at t e.at ≡ Some o → layout_told (hides_at t e.parent) (redrawn e.update o) ≡ layout_told (hides_at t e.parent) o

-- it has the members and callbacks that it had
abbrev pub KeepsLook : Tree RenderObject → PlanEntry Redraw → Type 0
KeepsLook t e = (o : RenderObject) → object_at t e.at ≡ Some o → object_look (redrawn e.update o) ≡ object_look o

-- the node is changed for layout: a member that a layout reads differs, or how many child widgets a SliverLazy has, or the list of
-- its children; or what it takes of a child differs
abbrev pub ChangesLayout : Tree RenderObject → Handle → PlanEntry Redraw → Type 0
ChangesLayout t h e = ((e.at ≡ h) × (KeepsOwn t e × KeepsList t e → ⊥)) ⊎ ((e.parent ≡ Some h) × (KeepsTold t e → ⊥))

-- it is changed for painting: any member or callback differs, or the list of its children
abbrev pub ChangesPaint : Tree RenderObject → Handle → PlanEntry Redraw → Type 0
ChangesPaint t h e = (e.at ≡ h) × (KeepsLook t e × KeepsList t e → ⊥)

-- each entry of a plan does it
abbrev pub EachEntry : (PlanEntry Redraw → Type 0) → List (PlanEntry Redraw) → Type 0
EachEntry P [] = Unit {0}
EachEntry P (e ∷ es) = P e × EachEntry P es

-- some entry does it
abbrev pub SomeEntry : (PlanEntry Redraw → Type 0) → List (PlanEntry Redraw) → Type 0
SomeEntry P [] = ⊥
SomeEntry P (e ∷ es) = P e ⊎ SomeEntry P es

-- a root that was none
abbrev pub BecomesRoot : Tree RenderObject → Option Handle → Handle → Type 0
BecomesRoot t root h = (root ≡ Some h) × (t.root ≡ Some h → ⊥)

-- these are the nodes that are changed for layout, where the plan makes this the root
pub record LaidAnew (t : Tree RenderObject) (root : Option Handle) (es : List (PlanEntry Redraw)) (hs : List Handle) : Type 0 where
  pub own : EachEntry (λ e. listed e.at hs ≡ false → KeepsOwn t e × KeepsList t e) es
  pub told : EachEntry (λ e. (p : Handle) → e.parent ≡ Some p → listed p hs ≡ false → KeepsTold t e) es
  pub top : IfSome root (λ r. listed r hs ≡ false → t.root ≡ Some r)
  pub caused : (h : Handle) → listed h hs ≡ true → SomeEntry (ChangesLayout t h) es ⊎ BecomesRoot t root h

-- and these those that are changed for painting
pub record PaintedAnew (t : Tree RenderObject) (root : Option Handle) (es : List (PlanEntry Redraw)) (hs : List Handle) : Type 0 where
  pub own : EachEntry (λ e. listed e.at hs ≡ false → KeepsLook t e × KeepsList t e) es
  pub top : IfSome root (λ r. listed r hs ≡ false → t.root ≡ Some r)
  pub caused : (h : Handle) → listed h hs ≡ true → SomeEntry (ChangesPaint t h) es ⊎ BecomesRoot t root h

-- ---- one step

-- a handle is put at the end of a list, unless this holds
abbrev pub Notes : Type 0 → Handle → List Handle → List Handle → Type 0
Notes P h old new = (P × (new ≡ old)) ⊎ ((P → ⊥) × (new ≡ old ++ h ∷ []))

-- so it is of a handle, where there is one
abbrev pub NotesSome : Type 0 → Option Handle → List Handle → List Handle → Type 0
NotesSome P None old new = new ≡ old
NotesSome P (Some h) old new = Notes P h old new
