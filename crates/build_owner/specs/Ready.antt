-- What the walk asks of both trees and of the registry, wherever it has come to.
use Rattle.std.specs.Prelude.{◌≡◌, ℕ, ◌+◌, ◌≤◌, false, Some, IfSome, List}
use Rattle.fx_expr.specs.declared.values.Value.{Value}
use Rattle.fx_handles.specs.declared.Handle.{Handle}
use Rattle.fx_handles.specs.declared.TheConstants.{SLOTS_MAX}
use Rattle.fx_handles.specs.Arena.{used_count, retired_count}
use Rattle.node_tree.specs.Tree.{Tree}
use Rattle.widget_model.specs.Plain.{PlainWidget, look_of}
use Rattle.widget_model.specs.Typed.{Declarations, IsTypedWidget}
use Rattle.widget_model.specs.Update.{CanUpdate}
use Rattle.widget_model.specs.View.{shared}
use Rattle.build_form.specs.BuildRole.{composes, build_role_of}
use Rattle.element_tree.specs.Element.{Element, element_at}
use Rattle.global_keys.specs.Holders.{Registry}
use Rattle.render_tree.specs.Object.{RenderObject}
use Rattle.build_owner.specs.declared.arriving.Arrival.{Arrival as ArrivalOfWidget}
use Rattle.build_owner.specs.ArrivalView.{widget_at}
use Rattle.build_owner.specs.Climbing.{AreAllFitting}
use Rattle.build_owner.specs.Entry.{IsTypedElement, AreTypedHolders}

-- an old element to which a widget is matched: it is typed, and its widget can be updated to this one
pub record IsMatched (d : Declarations) (t : Tree Element) (w : PlainWidget) (h : Handle) : Type 0 where
  pub typed : IsTypedElement d t h
  pub updates : IfSome (widget_at t h) (λ old. CanUpdate old w)

-- what a component without a flag stores as its output is typed
abbrev pub AreTypedOutputs : Declarations → Tree Element → Type 0
AreTypedOutputs d t =
    (h : Handle) (e : Element) → element_at t h ≡ Some e → e.dirty ≡ false → (place : ℕ) (props : List Value) → build_role_of (look_of e.widget) ≡ composes place props → IfSome e.output (IsTypedWidget d)

-- the old elements that have global keys which weren't met are typed, each element gives inherited names values of their types, and
-- outputs that may be kept are typed
pub record AreReady (d : Declarations) (t : Tree Element) (g : Registry) : Type 0 where
  pub holders : AreTypedHolders d t g
  pub fitting : AreAllFitting d.inherited t
  pub outputs : AreTypedOutputs d t

-- where so many widgets were entered, both trees have room for all that may be entered yet
pub record HasRoom (limit entered : ℕ) (t : Tree Element) (r : Tree RenderObject) : Type 0 where
  pub elements : used_count t.nodes + retired_count t.nodes + limit ≤ SLOTS_MAX + entered
  pub renders : used_count r.nodes + retired_count r.nodes + limit ≤ SLOTS_MAX + entered

pub record IsReadyToWalk (d : Declarations) (limit entered : ℕ) (t : Tree Element) (r : Tree RenderObject) (g : Registry) : Type 0 where
  pub elements : AreReady d t g
  pub room : HasRoom limit entered t r

-- a widget that arrives is typed, and matched to such an element, if to any
pub record IsTypedArrival (d : Declarations) (t : Tree Element) (a : ArrivalOfWidget) : Type 0 where
  pub widget : IsTypedWidget d (shared a.widget)
  pub beside : IfSome a.beside (IsMatched d t (shared a.widget))
