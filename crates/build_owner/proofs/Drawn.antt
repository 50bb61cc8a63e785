-- The render node of a widget: that of its old element, or a new one.
use Rattle.std.proofs.Common.{◌≡◌, ℕ, Bool, true, false, not, Option, Some, None, is_some, IfSome, option_and_then, option_map, List, refl, sym, ap, ◌∙◌, subst}
use Rattle.fx_handles.specs.declared.Handle.{Handle}
use Rattle.fx_expr.specs.declared.values.Value.{Value}
use Rattle.node_tree.specs.Children.{Keeps}
use Rattle.node_tree.specs.Forest.{TreeNode}
use Rattle.node_tree.specs.Tree.{Tree, IsNode, Holds}
use Rattle.widget_model.specs.Plain.{PlainWidget, look_of}
use Rattle.widget_model.specs.Update.{IsSameType}
use Rattle.widget_model.specs.WidgetType.{type_of as type_of_look}
use Rattle.plain_tree.specs.declared.role.RenderRole.{RenderRole}
use Rattle.plain_tree.specs.declared.role.RenderRole.TheVariants.{Composes, Shares, Places, Line, Pile, Lazy, Window, Plain}
use Rattle.plain_tree.specs.Projection.{scroll_in}
use Rattle.plain_tree.specs.RenderRole.{render_role_of, vanishes}
use Rattle.build_form.specs.Entering.{Basis, scroll_for}
use Rattle.build_form.specs.Partner.{Arrival, partner_of}
use Rattle.build_form.specs.Step.{Progress}
use Rattle.element_tree.specs.Element.{Element, element_at}
use Rattle.global_keys.specs.Holders.{Registry}
use Rattle.render_tree.specs.Edits.{new_object}
use Rattle.render_tree.specs.Object.{RenderObject}
use Rattle.render_tree.specs.Tree.{object_at}
use Rattle.build_walk.specs.Past.{Pasts}
use Rattle.build_walk.specs.Kept.{plain_at_any, IsOldElement}
use Rattle.build_walk.specs.Renewing.{role_of, IsDrawn, Unless}
use Rattle.build_owner.specs.declared.owning.Owned.{Owned}
use Rattle.build_owner.specs.LastFrame.{LastFrame, IsOld}
use Rattle.build_owner.specs.Owned.{OwnsElement}
use Rattle.build_owner.proofs.Children.{live_element, some_is}

-- a new render node isn't scrolled
unscrolled : (r : RenderRole) (n : ℕ) → n ≡ 0 → 0 ≡ scroll_in r n
unscrolled Composes n e = refl
unscrolled (Shares flex tight) n e = refl
unscrolled (Places placed) n e = refl
unscrolled Line n e = refl
unscrolled Pile n e = refl
unscrolled Lazy n e = refl
unscrolled Window n e = sym e
unscrolled Plain n e = refl

-- what holds of what is drawn, unless it has no render node
unless_drawn : (b : Bool) (P : Type 0) → P → Unless b P
unless_drawn true P p = tt
unless_drawn false P p = p

drawn_if : (b : Bool) (P Q : Type 0) → (P → Q) → Unless b P → Unless b Q
drawn_if true P Q f p = tt
drawn_if false P Q f p = f p

module _ (e : Element) (w : PlainWidget) (is : e.widget ≡ w) where
  -- one that vanishes has none
  pub nothing_drawn : (at : Handle → Option RenderObject) (scroll : ℕ) → vanishes (render_role_of (look_of w)) ≡ true → Unless (vanishes (role_of e)) (IsDrawn at scroll e)
  nothing_drawn at scroll gone = subst (λ b. Unless b (IsDrawn at scroll e)) (sym (ap (λ x. vanishes (render_role_of (look_of x))) is ∙ gone)) tt

  -- a new one
  pub drawn_anew : (t : Tree RenderObject) (k : Handle) (scroll : ℕ) → object_at t k ≡ Some (new_object e.number w) → e.render ≡ Some k → scroll ≡ 0 → Unless (vanishes (role_of e)) (IsDrawn (object_at t) scroll e)
  drawn_anew t k scroll stored named zero =
      unless_drawn (vanishes (role_of e)) (IsDrawn (object_at t) scroll e)
      (record { handle = k; named = named; object = new_object e.number w; stored = stored; number = refl; scrolled = unscrolled (role_of e) scroll zero })

  -- that of the old element
  pub drawn_before : (r s : Tree RenderObject) (scroll : ℕ) (was : Element) → ((k : Handle) (o : RenderObject) → object_at r k ≡ Some o → object_at s k ≡ Some o)
      → vanishes (role_of was) ≡ vanishes (role_of e) → scroll_in (role_of was) scroll ≡ scroll_in (role_of e) scroll → was.number ≡ e.number → was.render ≡ e.render
      → Unless (vanishes (role_of was)) (IsDrawn (object_at r) scroll was) → Unless (vanishes (role_of e)) (IsDrawn (object_at s) scroll e)
  drawn_before r s scroll was keeps gone alike number render drawn =
      drawn_if (vanishes (role_of e)) (IsDrawn (object_at r) scroll was) (IsDrawn (object_at s) scroll e)
      (λ d. record {
        handle = d.handle;
        named = sym render ∙ d.named;
        object = d.object;
        stored = keeps d.handle d.object d.stored;
        number = d.number ∙ number;
        scrolled = d.scrolled ∙ alike;
      })
      (subst (λ b. Unless b (IsDrawn (object_at r) scroll was)) gone drawn)

-- ---- as a widget owns it

pub not_true : (b : Bool) → not b ≡ true → b ≡ false
not_true true e = cc
not_true false e = refl

pub not_false : (b : Bool) → not b ≡ false → b ≡ true
not_false true e = refl
not_false false e = cc

pub is_there : {A : Type 0} (o : Option A) → is_some o ≡ true → (x : A) × (o ≡ Some x)
is_there None e = cc
is_there (Some x) e = (x, refl)

pub isnt_there : {A : Type 0} (o : Option A) → is_some o ≡ false → o ≡ None
isnt_there None e = refl
isnt_there (Some x) e = cc

number_in : (o : Option Element) (e : Element) (n : ℕ) → o ≡ Some e → Some n ≡ option_map (λ (x : Element). x.number) o → n ≡ e.number
number_in o e n is has = some_is (has ∙ ap (option_map (λ (x : Element). x.number)) is)

render_in : (o : Option Element) (e : Element) → o ≡ Some e → option_and_then (λ (x : Element). x.render) o ≡ e.render
render_in o e is = ap (option_and_then (λ (x : Element). x.render)) is

pub live_number : (t : Tree Element) (h : Handle) → IsNode t h → None ≡ option_map (λ (x : Element). x.number) (element_at t h) → ⊥
live_number t h live none = let e = live_element t h live in let is : None ≡ Some e.0.number = none ∙ ap (option_map (λ (x : Element). x.number)) e.1 in cc

module _ (f : LastFrame) (from : Basis) (olds : List Value) (a : Arrival) (s : Progress) (t : Tree Element) (g : Registry) (owned : Owned) (o : OwnsElement f from olds a s t g owned)
    (e : Element) (same : e.widget ≡ a.widget) (number : e.number ≡ o.element.number) where
  pub drawn_new : (r : Tree RenderObject) (k : Handle) (n : ℕ) → owned.partner ≡ None → Some n ≡ option_map (λ (x : Element). x.number) (element_at t owned.at) → object_at r k ≡ Some (new_object n a.widget)
      → e.render ≡ Some k → Unless (vanishes (role_of e)) (IsDrawn (object_at r) (f.scrolled e.number) e)
  drawn_new r k n none has stored named =
      let n_is : n ≡ e.number = number_in (element_at t owned.at) o.element n o.stored has ∙ sym number in
      let partner : partner_of from.holder a ≡ None = sym o.partner ∙ ap (plain_at_any f.scrolled f.elements) none in
      drawn_anew e a.widget same r k (f.scrolled e.number) (stored ∙ ap (λ m. Some (new_object m a.widget)) n_is) named (ap f.scrolled number ∙ o.scroll ∙ ap scroll_for partner)

  pub drawn_kept : (law : (pasts : Pasts) (scrolled : ℕ → ℕ) (was : List Value) (u : Tree Element) (r : Tree RenderObject) (h : Handle) (x : Element)
      → IsOldElement pasts scrolled was u r h → element_at u h ≡ Some x → Unless (vanishes (role_of x)) (IsDrawn (object_at r) (scrolled x.number) x))
      (live : (u : Tree Element) (h : Handle) → Holds u h → IsNode u h)
      (gone : (v w : PlainWidget) → IsSameType v w → vanishes (render_role_of (look_of v)) ≡ vanishes (render_role_of (look_of w)))
      (alike : (v w : PlainWidget) (n : ℕ) → IsSameType v w → scroll_in (render_role_of (look_of v)) n ≡ scroll_in (render_role_of (look_of w)) n)
      (r : Tree RenderObject) (keeps : (k : Handle) (x : RenderObject) → object_at f.renders k ≡ Some x → object_at r k ≡ Some x) → Keeps f.elements t
      → (h : Handle) → owned.partner ≡ Some h → h ≡ owned.at → e.render ≡ option_and_then (λ (x : Element). x.render) (element_at t owned.at)
      → Unless (vanishes (role_of e)) (IsDrawn (object_at r) (f.scrolled e.number) e)
  drawn_kept law live gone alike r keeps still h is at render =
      let old = subst (λ x. IfSome x (IsOld f olds)) is o.old in
      let lives = live f.elements h old.holds in
      let was = live_element f.elements h lives in
      let now : element_at t owned.at ≡ Some was.0 = ap (element_at t) (sym at) ∙ ap (option_map (λ (x : TreeNode Element). x.value)) (still h lives) ∙ was.1 in
      let one : was.0 ≡ o.element = some_is (sym now ∙ o.stored) in
      let type : IsSameType was.0.widget a.widget = ap (λ x. type_of_look (look_of x.widget)) one ∙ o.follows.updates.type in
      let numbers : was.0.number ≡ e.number = ap (λ x. x.number) one ∙ sym number in
      let drawn = subst (λ n. Unless (vanishes (role_of was.0)) (IsDrawn (object_at f.renders) (f.scrolled n) was.0)) numbers (law f.pasts f.scrolled olds f.elements f.renders h was.0 old was.1) in
      drawn_before e a.widget same f.renders r (f.scrolled e.number) was.0 keeps
      (gone was.0.widget a.widget type ∙ sym (ap (λ x. vanishes (render_role_of (look_of x))) same))
      (alike was.0.widget a.widget (f.scrolled e.number) type ∙ sym (ap (λ x. scroll_in (render_role_of (look_of x)) (f.scrolled e.number)) same))
      numbers (sym (render_in (element_at t owned.at) was.0 now) ∙ sym render) drawn
