-- The element that a widget has, before it is known what is below it: an old one from which it goes on, or a new one.
use Rattle.std.specs.Prelude.{◌≡◌, ◌+◌, Some, IfSome, List}
use Rattle.fx_expr.specs.declared.values.Value.{Value}
use Rattle.node_tree.specs.Tree.{Tree, IsNode}
use Rattle.widget_model.specs.Plain.{PlainWidget, look_of, key_of}
use Rattle.widget_model.specs.Typed.{Declarations}
use Rattle.build_form.specs.BuildRole.{build_role_of}
use Rattle.build_form.specs.Entering.{Basis, met_once, number_for, fields_for, scroll_for, next_after}
use Rattle.build_form.specs.Partner.{Arrival, partner_of}
use Rattle.build_form.specs.Step.{Progress, gives}
use Rattle.build_form.specs.WellBuilt.{FitFields}
use Rattle.element_tree.specs.Element.{Element, element_at, made_count}
use Rattle.element_tree.specs.Fields.{CanFollow}
use Rattle.global_keys.specs.Holders.{Registry, is_met}
use Rattle.build_walk.specs.Kept.{plain_at_any}
use Rattle.build_owner.specs.declared.owning.Owned.{Owned}
use Rattle.build_owner.specs.Entry.{IsTypedElement}
use Rattle.build_owner.specs.LastFrame.{LastFrame, IsOld}

-- it is live, its fields are of the types that the widget declares, and an old one is typed
pub record IsElementOf (d : Declarations) (t : Tree Element) (w : PlainWidget) (o : Owned) : Type 0 where
  pub live : IsNode t o.at
  pub fit : (e : Element) → element_at t o.at ≡ Some e → FitFields d (build_role_of (look_of w)) e.fields
  pub partner : IfSome o.partner (λ h. (h ≡ o.at) × IsTypedElement d t h)

-- where a build that has come so far enters a widget, the widget's key was met, and this is its element, with what the widget goes on
-- from, which stood where the inherited names had these values
pub record OwnsElement (f : LastFrame) (from : Basis) (olds : List Value) (a : Arrival) (s : Progress) (t : Tree Element) (g : Registry) (o : Owned) : Type 0 where
  pub met : Progress
  pub is : met_once (key_of a.widget) s ≡ gives tt met
  pub entered : met.entered ≡ s.entered
  pub keys : met.met ≡ (λ k. is_met g k)
  pub next : next_after (partner_of from.holder a) met.next ≡ made_count t + 1
  pub waiting : met.waiting ≡ s.waiting
  pub partner : plain_at_any f.scrolled f.elements o.partner ≡ partner_of from.holder a
  pub old : IfSome o.partner (IsOld f olds)
  pub element : Element
  pub stored : element_at t o.at ≡ Some element
  pub number : element.number ≡ number_for (partner_of from.holder a) met
  pub fields : element.fields ≡ fields_for from.program a.widget (partner_of from.holder a)
  pub scroll : f.scrolled element.number ≡ scroll_for (partner_of from.holder a)
  pub follows : CanFollow element.widget a.widget
