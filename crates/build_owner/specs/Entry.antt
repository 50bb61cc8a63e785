-- What the walk comes to where it enters a widget, as the program says it.
use Rattle.std.specs.Prelude.{◌≡◌, ℕ, true, false, if◌then◌else◌, IfSome, Option, Some, None, List, [], ◌∷◌, ◌++◌, map, option_map}
use Rattle.std.specs.List.{All}
use Rattle.fx_expr.specs.declared.values.Value.{Value}
use Rattle.fx_expr.specs.Value.{type_of}
use Rattle.fx_handles.specs.declared.Handle.{Handle}
use Rattle.node_tree.specs.Plan.{PlanEntry}
use Rattle.node_tree.specs.Tree.{Tree, IsNode}
use Rattle.widget_model.specs.Plain.{PlainWidget, look_of}
use Rattle.widget_model.specs.Typed.{Declarations, IsTypedWidget}
use Rattle.widget_model.specs.View.{shared}
use Rattle.plain_tree.specs.RenderRole.{vanishes}
use Rattle.build_form.specs.BuildRole.{build_role_of}
use Rattle.build_form.specs.Entering.{Phase, Basis, waits, Opening}
use Rattle.build_form.specs.Numbered.{IsInPlace}
use Rattle.build_form.specs.Partner.{Arrival}
use Rattle.build_form.specs.Step.{Progress, gives}
use Rattle.build_form.specs.WellBuilt.{IsWellBuilt}
use Rattle.element_tree.specs.Element.{Element, element_at, number_at}
use Rattle.element_tree.specs.Renewal.{Renewal}
use Rattle.global_keys.specs.Holders.{Registry, is_met, holder_of}
use Rattle.render_tree.specs.Object.{RenderObject}
use Rattle.render_tree.specs.Tree.{object_at}
use Rattle.build_walk.specs.Keeping.{reopened}
use Rattle.build_walk.specs.Kept.{plain_at, plain_at_any}
use Rattle.build_walk.specs.Renewing.{GoesOn, role_of, IsDrawn, Unless}
use Rattle.build_walk.specs.Walked.{WalkPlans}
use Rattle.build_walk.specs.Entered.{IsElementFor}
use Rattle.build_owner.specs.declared.opening.Opening.{Opening as OpeningOfElement}
use Rattle.build_owner.specs.declared.walk.BuildWalk.{BuildWalk}
use Rattle.build_owner.specs.declared.walk.WaitingSpot.{WaitingSpot}
use Rattle.build_owner.specs.Given.{given_to}
use Rattle.build_owner.specs.LastFrame.{LastFrame, IsOld}
use Rattle.build_owner.specs.WalkView.{plans_of}

-- ---- what the walk asks of the old elements, so that components may be built of them; it doesn't depend on how far they are scrolled

abbrev pub IsTypedElement : Declarations → Tree Element → Handle → Type 0
IsTypedElement d t h = IsNode t h × IfSome (plain_at (λ _. 0) t h) (IsWellBuilt d) × IfSome (plain_at (λ _. 0) t h) IsInPlace

-- each that has a global key that wasn't met
abbrev pub AreTypedHolders : Declarations → Tree Element → Registry → Type 0
AreTypedHolders d t g = (k : Value) → is_met g k ≡ false → IfSome (holder_of g k) (IsTypedElement d t)

-- ---- a widget is opened

-- the element and all that is known of it before anything below it is entered; names have these values there now, and these in the
-- last frame where its old element stood
pub record IsOpened (f : LastFrame) (from : Basis) (values olds : List Value) (a : Arrival) (before after : Progress) (t : Tree Element) (r : Tree RenderObject)
    (o : OpeningOfElement) : Type 0 where
  pub opening : Opening
  pub is : reopened from f.pasts values a before ≡ gives opening after
  pub element : Element
  pub for : IsElementFor f.scrolled a opening element
  pub goes : GoesOn (element_at t) o.at element
  pub drawn : Unless (vanishes (role_of element)) (IsDrawn (object_at r) (f.scrolled element.number) element)
  pub unseen : vanishes (role_of element) ≡ true → o.render ≡ None
  pub output : element.output ≡ option_map shared o.output
  pub render : element.render ≡ o.render
  pub given : opening.given ≡ given_to a.widget o.given
  pub partner : opening.partner ≡ plain_at_any f.scrolled f.elements o.partner
  pub old : IfSome o.partner (IsOld f olds)

-- ---- the plans after what is below a widget was entered, where a lazy list that waits isn't counted yet
abbrev pub half_of : Phase → PlainWidget → BuildWalk → BuildWalk → WalkPlans
half_of phase w before after = record {
  elements = after.elements.items;
  renders = after.renders.items;
  tops = after.tops.items;
  lists = if waits phase (build_role_of (look_of w)) then (plans_of before).lists else (plans_of after).lists;
  waiting = if waits phase (build_role_of (look_of w)) then (plans_of before).waiting else (plans_of after).waiting;
}

-- the same plans, and the entry of an element
abbrev pub with_element : PlanEntry Renewal → WalkPlans → WalkPlans
with_element e p = record { elements = p.elements ++ e ∷ []; renders = p.renders; tops = p.tops; lists = p.lists; waiting = p.waiting }

-- the number of an element, where there is one
abbrev pub number_or : Option ℕ → ℕ
number_or None = 0
number_or (Some n) = n

-- a lazy list was put off
pub record IsPutOff (o : OpeningOfElement) (left : ℕ) (now was : List Value) (t : Tree Element) (w : PlainWidget) (before after : List WaitingSpot) : Type 0 where
  pub spot : WaitingSpot
  pub is : after ≡ before ++ spot ∷ []
  pub at : spot.at ≡ o.at
  pub kept : spot.kept ≡ o.partner
  pub left_is : spot.left ≡ left
  pub now_is : spot.now.items ≡ now
  pub was_is : spot.was.items ≡ was
  pub number : spot.number ≡ number_or (number_at t o.at)
  pub list : shared spot.list ≡ w

-- a lazy list that waits is typed, as are the old element from which it goes on and the values that the inherited names have and had
pub record IsTypedSpot (d : Declarations) (t : Tree Element) (s : WaitingSpot) : Type 0 where
  pub kept : IfSome s.kept (IsTypedElement d t)
  pub now : map type_of s.now.items ≡ d.inherited
  pub was : map type_of s.was.items ≡ d.inherited
  pub list : IsTypedWidget d (shared s.list)

abbrev pub AreTypedSpots : Declarations → Tree Element → List WaitingSpot → Type 0
AreTypedSpots d t spots = All (IsTypedSpot d t) spots

-- a walk may go on from each old element from which a lazy list that waits does
abbrev pub AreOldSpots : LastFrame → List WaitingSpot → Type 0
AreOldSpots f spots = All (λ (s : WaitingSpot). IfSome s.kept (IsOld f s.was.items)) spots
