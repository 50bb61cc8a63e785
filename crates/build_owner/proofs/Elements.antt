-- The element of a widget: an old one, or a new one.
use Rattle.std.proofs.Common.{◌≡◌, ℕ, ◌+◌, ◌≤◌, Bool, true, false, cond, ◌||◌, Option, Some, None, IsSome, IfSome, option_map, List, Vec, refl, sym, ap, ◌∙◌, subst, arith}
use Rattle.std.specs.declared.alloc.Global.{Global}
use Rattle.fx_handles.specs.declared.Handle.{Handle}
use Rattle.fx_expr.specs.declared.values.Value.{Value}
use Rattle.fx_expr.specs.Value.{value_eq}
use Rattle.node_tree.specs.Children.{Keeps}
use Rattle.node_tree.specs.Edits.{Adds}
use Rattle.node_tree.specs.Forest.{TreeNode, below}
use Rattle.node_tree.specs.Tree.{Tree, node_at, IsNode, IsTree, subtree_at, Holds}
use Rattle.widget_keys.specs.declared.keys.Key.{Key}
use Rattle.widget_keys.specs.declared.keys.Key.TheVariants as key
use Rattle.widget_model.specs.Plain.{PlainWidget, look_of, key_of}
use Rattle.widget_model.specs.Typed.{Declarations, IsTypedWidget}
use Rattle.widget_model.specs.Update.{same_type, IsSameType, CanUpdate}
use Rattle.widget_model.specs.UpdateLaws.{type_eq-Decides}
use Rattle.widget_model.specs.WidgetType.{type_of as type_of_look}
use Rattle.plain_tree.specs.PlainNode.{PlainNode, widget_of}
use Rattle.build_form.specs.BuildRole.{build_role_of}
use Rattle.build_form.specs.Entering.{Blueprint, met_once, number_for, fields_for, first_fields, scroll_for, next_after}
use Rattle.build_form.specs.Partner.{Arrival, of_type, candidate, partner_of}
use Rattle.build_form.specs.Step.{Progress, stops, gives, repeated_global_key}
use Rattle.build_form.specs.WellBuilt.{FitFields, IsWellBuilt}
use Rattle.build_form.proofs.Typing.{kept_fit}
use Rattle.element_tree.specs.Edits.{new_element}
use Rattle.element_tree.specs.Element.{Element, element_at, made_count}
use Rattle.element_tree.specs.Fields.{CanFollow}
use Rattle.global_keys.specs.Claims.{is_of_type}
use Rattle.global_keys.specs.Holders.{Registry, recorded, is_met, holder_of}
use Rattle.global_keys.specs.Named.{global_in, global_of}
use Rattle.render_tree.specs.Object.{RenderObject}
use Rattle.build_walk.specs.Kept.{node_over, plain_at, plain_at_any}
use Rattle.build_owner.specs.Entry.{IsTypedElement}
use Rattle.build_owner.specs.LastFrame.{LastFrame, IsOld, IsSince, basis_in}
use Rattle.build_owner.specs.Owned.{OwnsElement}
use Rattle.build_owner.proofs.Claims.{Meets, IsTaken, IsFresh}
use Rattle.build_owner.proofs.Follows.{follows_itself}

-- the plain node of an element, as a law says it
abbrev pub NodeLaw : Type 0
NodeLaw = (scrolled : ℕ → ℕ) (t : Tree Element) (h : Handle) (e : Element) → Holds t h → element_at t h ≡ Some e → plain_at scrolled t h ≡ Some (node_over scrolled e (below (subtree_at t h)))

abbrev pub HoldsLaw : Type 0
HoldsLaw = (t : Tree Element) (h : Handle) → IsTree t → IsNode t h → Holds t h

some_same : {A : Type 0} {x y : A} → Some x ≡ Some y → x ≡ y
some_same e = cc

-- ---- what is stored

live_in : (e : Element) (o : Option (TreeNode Element)) → option_map (λ (n : TreeNode Element). n.value) o ≡ Some e → IsSome o
live_in e None is = cc
live_in e (Some n) is = refl

pub live_stored : (t : Tree Element) (h : Handle) (e : Element) → element_at t h ≡ Some e → IsNode t h
live_stored t h e is = live_in e (node_at t h) is

pub added_stored : (old new : Tree Element) (h : Handle) (e : Element) → Adds old.nodes new.nodes None 0 h e → element_at new h ≡ Some e
added_stored old new h e adds = ap (option_map (λ (n : TreeNode Element). n.value)) adds.found

-- an old element is the same where elements were added
pub still_stored : (old new : Tree Element) (h : Handle) → Keeps old new → IsNode old h → element_at new h ≡ element_at old h
still_stored old new h keeps live = ap (option_map (λ (n : TreeNode Element). n.value)) (keeps h live)

-- an element with a global key
pub with_key : (k : Value) (o : Option Element) → global_of o ≡ Some k → (e : Element) × (o ≡ Some e) × (global_in (key_of e.widget) ≡ Some k)
with_key k None is = cc
with_key k (Some e) is = (e, refl, is)

global_only : (k : Key Value) (v : Value) → global_in k ≡ Some v → k ≡ key.Global v
global_only key.None v is = cc
global_only (key.Local w) v is = cc
global_only (key.Global w) v is = ap key.Global (some_same is)

-- ---- the key was met

pub record KeyMet (w : PlainWidget) (s : Progress) (g : Registry) : Type 0 where
  pub met : Progress
  pub is : met_once (key_of w) s ≡ gives tt met
  pub entered : met.entered ≡ s.entered
  pub keys : met.met ≡ (λ k. is_met g k)
  pub next : met.next ≡ s.next
  pub waiting : met.waiting ≡ s.waiting

no_global : (k : Key Value) (s : Progress) → global_in k ≡ None → met_once k s ≡ gives tt s
no_global key.None s none = refl
no_global (key.Local v) s none = refl
no_global (key.Global v) s none = cc

pub none_met : (w : PlainWidget) (s : Progress) (g : Registry) → global_in (key_of w) ≡ None → s.met ≡ (λ k. is_met g k) → KeyMet w s g
none_met w s g none same = record { met = s; is = no_global (key_of w) s none; entered = refl; keys = same; next = refl; waiting = refl }

pub now_met : (w : PlainWidget) (v : Value) (s : Progress) (old new : Registry) → global_in (key_of w) ≡ Some v → s.met ≡ (λ k. is_met old k) → is_met old v ≡ false → Meets v old new
    → KeyMet w s new
now_met w v s old new global same unmet meets =
    let after : Progress = record { entered = s.entered; met = λ k. value_eq v k || s.met k; next = s.next; waiting = s.waiting } in
    record {
      met = after;
      is = ap (λ k. met_once k s) (global_only (key_of w) v global) ∙ ap (λ b. cond b (stops (repeated_global_key v)) (gives tt after)) (ap (λ m. m v) same ∙ unmet);
      entered = refl;
      keys = λ i. λ k. (ap (λ m. value_eq v k || m k) same ∙ meets.met k) i;
      next = refl;
      waiting = refl;
    }

pub met_again : (w : PlainWidget) (v : Value) (s : Progress) (old : Registry) → global_in (key_of w) ≡ Some v → s.met ≡ (λ k. is_met old k) → is_met old v ≡ true
    → met_once (key_of w) s ≡ stops (repeated_global_key v)
met_again w v s old global same is =
    let after : Progress = record { entered = s.entered; met = λ k. value_eq v k || s.met k; next = s.next; waiting = s.waiting } in
    ap (λ k. met_once k s) (global_only (key_of w) v global) ∙ ap (λ b. cond b (stops (repeated_global_key v)) (gives tt after)) (ap (λ m. m v) same ∙ is)

-- ---- what the widget goes on from

beside_for : (k : Key Value) (holder : Value → Option PlainNode) (beside : Option PlainNode) → global_in k ≡ None → candidate k holder beside ≡ beside
beside_for key.None holder beside none = refl
beside_for (key.Local v) holder beside none = refl
beside_for (key.Global v) holder beside none = cc

module _ (f : LastFrame) (b : Blueprint) (a : Arrival) where
  abbrev holders : Value → Option PlainNode
  holders k = plain_at_any f.scrolled f.elements (f.holders k)

  pub by_place : global_in (key_of a.widget) ≡ None → candidate (key_of a.widget) holders a.beside ≡ a.beside
  by_place none = beside_for (key_of a.widget) holders a.beside none

  pub by_key : (v : Value) (o : Option Handle) → global_in (key_of a.widget) ≡ Some v → f.holders v ≡ o → candidate (key_of a.widget) holders a.beside ≡ plain_at_any f.scrolled f.elements o
  by_key v o global is = ap (λ k. candidate k holders a.beside) (global_only (key_of a.widget) v global) ∙ ap (plain_at_any f.scrolled f.elements) is

  pub none_for : candidate (key_of a.widget) holders a.beside ≡ None → partner_of holders a ≡ None
  none_for is = ap (of_type a.widget) is

  some_for : (n : PlainNode) (same : Bool) → candidate (key_of a.widget) holders a.beside ≡ Some n → same_type (widget_of n) a.widget ≡ same → partner_of holders a ≡ cond same (Some n) None
  some_for n same is type = ap (of_type a.widget) is ∙ ap (λ t. cond t (Some n) None) type

  module _ (law : NodeLaw) (s : Progress) (t : Tree Element) (g : Registry) (m : KeyMet a.widget s g) (olds : List Value) (around : Option (Vec Value Global)) where
    -- an old element
    pub old_owned : (h : Handle) (e : Element) → s.next ≡ made_count t + 1 → IsOld f olds h → element_at f.elements h ≡ Some e → element_at t h ≡ Some e
        → candidate (key_of a.widget) holders a.beside ≡ plain_at f.scrolled f.elements h → CanFollow e.widget a.widget
        → OwnsElement f (basis_in b f) olds a s t g (record { at = h; partner = Some h; around = around })
    old_owned h e next old was is found follows =
        let n = node_over f.scrolled e (below (subtree_at f.elements h)) in
        let plain = law f.scrolled f.elements h e old.holds was in
        let same = (type_eq-Decides (type_of_look (look_of e.widget)) (type_of_look (look_of a.widget))).1 follows.updates.type in
        let partner = some_for n true (found ∙ plain) same in
        record {
          met = m.met;
          is = m.is;
          entered = m.entered;
          keys = m.keys;
          next = ap (λ p. next_after p m.met.next) partner ∙ m.next ∙ next;
          waiting = m.waiting;
          partner = plain ∙ sym partner;
          old = old;
          element = e;
          stored = is;
          number = ap (λ p. number_for p m.met) (sym partner);
          fields = ap (λ p. fields_for b a.widget p) (sym partner);
          scroll = ap scroll_for (sym partner);
          follows = follows;
        }

    -- a new one
    pub new_owned : (was : Tree Element) (h : Handle) → s.next ≡ made_count was + 1 → partner_of holders a ≡ None
        → Adds was.nodes t.nodes None 0 h (new_element (made_count was + 1) a.widget (first_fields b (build_role_of (look_of a.widget))))
        → ((n : ℕ) → made_count was + 1 ≤ n → f.scrolled n ≡ 0)
        → OwnsElement f (basis_in b f) olds a s t g (record { at = h; partner = None; around = around })
    new_owned was h next none adds unscrolled =
        let more : made_count t ≡ made_count was + 1 = adds.inserted in
        let given : m.met.next ≡ made_count was + 1 = m.next ∙ next in
        record {
          met = m.met;
          is = m.is;
          entered = m.entered;
          keys = m.keys;
          next = ap (λ p. next_after p m.met.next) none ∙ (omega (arith, more, given));
          waiting = m.waiting;
          partner = sym none;
          old = tt;
          element = new_element (made_count was + 1) a.widget (first_fields b (build_role_of (look_of a.widget)));
          stored = added_stored was t h (new_element (made_count was + 1) a.widget (first_fields b (build_role_of (look_of a.widget)))) adds;
          number = sym given ∙ ap (λ p. number_for p m.met) (sym none);
          fields = ap (λ p. fields_for b a.widget p) (sym none);
          scroll = unscrolled (made_count was + 1) (omega arith) ∙ ap scroll_for (sym none);
          follows = follows_itself a.widget;
        }

  -- where the key is fresh, it goes on from nothing
  pub none_fresh : (law : NodeLaw) (holds : HoldsLaw) (defaults : List Value) (t : Tree Element) (r : Tree RenderObject) (g : Registry) (v : Value) → IsSince defaults f t r g → global_in (key_of a.widget) ≡ Some v
      → IsFresh t a.widget (recorded g v) → partner_of holders a ≡ None
  none_fresh law holds defaults t r g v since global fresh = by_holder (f.holders v) refl
    where
      by_holder : (o : Option Handle) → f.holders v ≡ o → partner_of holders a ≡ None
      by_holder None is = none_for (by_key v None global is)
      by_holder (Some h) is =
          let had = with_key v (element_at f.elements h) (since.named v h is) in
          let live = live_stored f.elements h had.0 had.1 in
          let plain = law f.scrolled f.elements h had.0 (holds f.elements h since.tree live) had.1 in
          let now : element_at t h ≡ Some had.0 = still_stored f.elements t h since.elements live ∙ had.1 in
          let named : holder_of g v ≡ Some h = since.holders v fresh.unmet ∙ is in
          let other : same_type had.0.widget a.widget ≡ false = sym (ap (λ o. is_of_type o a.widget) now) ∙ fresh.other h named in
          some_for (node_over f.scrolled had.0 (below (subtree_at f.elements h))) false (by_key v (Some h) global is ∙ plain) other

  -- where it was taken, it goes on from the element that had it
  pub record Had (h : Handle) (t : Tree Element) : Type 0 where
    pub element : Element
    pub was : element_at f.elements h ≡ Some element
    pub now : element_at t h ≡ Some element
    pub found : candidate (key_of a.widget) holders a.beside ≡ plain_at f.scrolled f.elements h
    pub updates : CanUpdate element.widget a.widget

  pub had_taken : (defaults : List Value) (t : Tree Element) (r : Tree RenderObject) (g : Registry) (v : Value) (h : Handle) → IsSince defaults f t r g → global_in (key_of a.widget) ≡ Some v
      → IsTaken t a.widget h (recorded g v) → Had h t
  had_taken defaults t r g v h since global taken =
      let is : f.holders v ≡ Some h = sym (since.holders v taken.unmet) ∙ taken.named in
      let had = with_key v (element_at f.elements h) (since.named v h is) in
      let live = live_stored f.elements h had.0 had.1 in
      let now : element_at t h ≡ Some had.0 = still_stored f.elements t h since.elements live ∙ had.1 in
      let same : same_type had.0.widget a.widget ≡ true = sym (ap (λ o. is_of_type o a.widget) now) ∙ taken.type in
      record {
        element = had.0;
        was = had.1;
        now = now;
        found = by_key v (Some h) global is;
        updates = record {
          type = (type_eq-Decides (type_of_look (look_of had.0.widget)) (type_of_look (look_of a.widget))).0 same;
          key = global_only (key_of had.0.widget) v had.2 ∙ sym (global_only (key_of a.widget) v global);
        };
      }

-- ---- what is typed

module _ (law : NodeLaw) (holds : HoldsLaw) (d : Declarations) (t : Tree Element) (tree : IsTree t) (h : Handle) (e : Element) (typed : IsTypedElement d t h) (is : element_at t h ≡ Some e) where
  well : IsWellBuilt d (node_over (λ _. 0) e (below (subtree_at t h)))
  well = subst (λ o. IfSome o (IsWellBuilt d)) (law (λ _. 0) t h e (holds t h tree typed.0) is) typed.1

  pub typed_widget : IsTypedWidget d e.widget
  typed_widget = well.0.typed

  pub fields_fit : (w : PlainWidget) → IsSameType e.widget w → FitFields d (build_role_of (look_of w)) e.fields
  fields_fit w same =
      kept_fit d (node_over (λ _. 0) e (below (subtree_at t h))) w well ((type_eq-Decides (type_of_look (look_of e.widget)) (type_of_look (look_of w))).1 same)
