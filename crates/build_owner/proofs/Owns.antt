-- What a widget owns, by where its element comes from.
use Rattle.std.proofs.Common.{◌≡◌, ℕ, ◌+◌, Option, Some, None, IfSome, option_map, List, Vec, refl, sym, ap, ◌∙◌, subst}
use Rattle.std.specs.declared.alloc.Global.{Global}
use Rattle.fx_handles.specs.declared.Handle.{Handle}
use Rattle.fx_expr.specs.declared.values.Value.{Value}
use Rattle.node_tree.specs.Edits.{Adds}
use Rattle.node_tree.specs.Tree.{Tree, IsNode, IsTree, Holds}
use Rattle.widget_model.specs.Plain.{PlainWidget, look_of, key_of}
use Rattle.widget_model.specs.Typed.{Declarations, IsTypedWidget}
use Rattle.widget_model.specs.Update.{IsSameType, CanUpdate}
use Rattle.widget_model.specs.UpdateLaws.{type_eq-Decides}
use Rattle.widget_model.specs.WidgetType.{type_of as type_of_look}
use Rattle.build_form.specs.BuildRole.{build_role_of}
use Rattle.build_form.specs.Entering.{Blueprint, first_fields}
use Rattle.build_form.specs.Partner.{Arrival, arrival}
use Rattle.build_form.specs.Step.{Progress}
use Rattle.build_form.specs.WellBuilt.{FitFields}
use Rattle.element_tree.specs.Edits.{new_element}
use Rattle.element_tree.specs.Element.{Element, element_at, made_count}
use Rattle.global_keys.specs.Claims.{is_of_type}
use Rattle.global_keys.specs.Holders.{Registry, recorded, is_met}
use Rattle.global_keys.specs.Named.{global_in}
use Rattle.render_tree.specs.Object.{RenderObject}
use Rattle.build_walk.specs.Kept.{plain_at_any}
use Rattle.build_owner.specs.Climbing.{IsStillThere}
use Rattle.build_owner.specs.Entry.{IsTypedElement, AreTypedHolders}
use Rattle.build_owner.specs.LastFrame.{LastFrame, IsOld, IsSince, basis_in}
use Rattle.build_owner.specs.Owned.{IsElementOf, OwnsElement}
use Rattle.build_owner.specs.Ready.{IsMatched}
use Rattle.build_owner.proofs.Claims.{Meets, IsTaken, IsFresh}
use Rattle.build_owner.proofs.Elements.{NodeLaw, HoldsLaw, none_met, now_met, by_place, none_for, old_owned, new_owned, none_fresh, had_taken, typed_widget, fields_fit, live_stored, still_stored, added_stored}
use Rattle.build_owner.proofs.Children.{live_element}
use Rattle.build_owner.proofs.Follows.{can_follow}

-- a standing element is live, as a law says it
abbrev pub LiveLaw : Type 0
LiveLaw = (t : Tree Element) (h : Handle) → Holds t h → IsNode t h

some_same : {A : Type 0} {x y : A} → Some x ≡ Some y → x ≡ y
some_same e = cc

module _ (law : NodeLaw) (holds : HoldsLaw) (d : Declarations) (f : LastFrame) (b : Blueprint) (w : PlainWidget) (place : ℕ) (beside : Option Handle) (typed : IsTypedWidget d w)
    (t : Tree Element) (tree : IsTree t) (r : Tree RenderObject) (g : Registry) (defaults : List Value) (since : IsSince defaults f t r g) (s : Progress) (same : s.met ≡ (λ k. is_met g k)) where
  abbrev a : Arrival
  a = arrival w place (plain_at_any f.scrolled f.elements beside)

  -- it goes on from the element to which it is matched
  pub owns_beside : (live : LiveLaw) (was : List Value) (h : Handle) → beside ≡ Some h → IfSome beside (IsMatched d t w) → IfSome beside (IsOld f was) → global_in (key_of w) ≡ None
      → s.next ≡ made_count t + 1 → OwnsElement f (basis_in b f) was a s t g (record { at = h; partner = Some h; around = None })
  owns_beside live was h is matched olds none next =
      let old = subst (λ o. IfSome o (IsOld f was)) is olds in
      let m = subst (λ o. IfSome o (IsMatched d t w)) is matched in
      let lives = live f.elements h old.holds in
      let e = live_element f.elements h lives in
      let now : element_at t h ≡ Some e.0 = still_stored f.elements t h since.elements lives ∙ e.1 in
      let updates : CanUpdate e.0.widget w = subst (λ o. IfSome o (λ x. CanUpdate x w)) (ap (option_map (λ (x : Element). x.widget)) now) m.updates in
      old_owned f b a law s t g (none_met w s g none same) was None h e.0 next old e.1 now
      (by_place f b a none ∙ ap (plain_at_any f.scrolled f.elements) is)
      (can_follow d e.0.widget w updates (typed_widget law holds d t tree h e.0 m.typed now) typed)

  -- it is matched to none
  pub owns_new : (was : List Value) (u : Tree Element) (h : Handle) → beside ≡ None → global_in (key_of w) ≡ None → s.next ≡ made_count t + 1
      → Adds t.nodes u.nodes None 0 h (new_element (made_count t + 1) w (first_fields b (build_role_of (look_of w))))
      → OwnsElement f (basis_in b f) was a s u g (record { at = h; partner = None; around = None })
  owns_new was u h is none next adds =
      new_owned f b a law s u g (none_met w s g none same) was None t h next
      (none_for f b a (by_place f b a none ∙ ap (plain_at_any f.scrolled f.elements) is)) adds since.fresh

  module _ (v : Value) (global : global_in (key_of w) ≡ Some v) (k : Registry) (meets : Meets v g k) where
    -- it goes on from the element that had its key
    pub owns_taken : (was : List Value) (around : Option (Vec Value Global)) (h : Handle) → IsTaken t w h (recorded g v) → AreTypedHolders d t g → s.next ≡ made_count t + 1
        → (IsStillThere defaults f t → IsNode f.elements h → IsOld f was h)
        → OwnsElement f (basis_in b f) was a s t k (record { at = h; partner = Some h; around = around })
    owns_taken was around h taken holders next climbed =
        let had = had_taken f b a defaults t r g v h since global taken in
        let element = subst (λ o. IfSome o (IsTypedElement d t)) taken.named (holders v taken.unmet) in
        let old = climbed (record { tree = since.tree; old = since.old; elements = since.elements }) (live_stored f.elements h had.element had.was) in
        old_owned f b a law s t k (now_met w v s g k global same taken.unmet meets) was around h had.element next old had.was had.now had.found
        (can_follow d had.element.widget w had.updates (typed_widget law holds d t tree h had.element element had.now) typed)

    -- its key is fresh
    pub owns_fresh : (was : List Value) (u : Tree Element) (h : Handle) → IsFresh t w (recorded g v) → s.next ≡ made_count t + 1
        → Adds t.nodes u.nodes None 0 h (new_element (made_count t + 1) w (first_fields b (build_role_of (look_of w))))
        → OwnsElement f (basis_in b f) was a s u k (record { at = h; partner = None; around = None })
    owns_fresh was u h fresh next adds =
        new_owned f b a law s u k (now_met w v s g k global same fresh.unmet meets) was None t h next
        (none_fresh f b a law holds defaults t r g v since global fresh) adds since.fresh

-- ---- its element

module _ (law : NodeLaw) (holds : HoldsLaw) (d : Declarations) (w : PlainWidget) (around : Option (Vec Value Global)) where
  pub old_element : (t : Tree Element) (h : Handle) (e : Element) → IsTree t → IsTypedElement d t h → element_at t h ≡ Some e → IsSameType e.widget w
      → IsElementOf d t w (record { at = h; partner = Some h; around = around })
  old_element t h e tree typed is same = record {
    live = typed.0;
    fit = λ x at. subst (λ y. FitFields d (build_role_of (look_of w)) y.fields) (some_same (sym is ∙ at)) (fields_fit law holds d t tree h e typed is w same);
    partner = (refl, typed);
  }

  -- the one to which it is matched
  pub element_beside : (t : Tree Element) (h : Handle) (beside : Option Handle) → IsTree t → beside ≡ Some h → IfSome beside (IsMatched d t w)
      → IsElementOf d t w (record { at = h; partner = Some h; around = around })
  element_beside t h beside tree is matched =
      let m = subst (λ o. IfSome o (IsMatched d t w)) is matched in
      let e = live_element t h m.typed.0 in
      let updates : CanUpdate e.0.widget w = subst (λ o. IfSome o (λ x. CanUpdate x w)) (ap (option_map (λ (x : Element). x.widget)) e.1) m.updates in
      old_element t h e.0 tree m.typed e.1 updates.type

  -- the one that had its key
  pub typed_taken : (t : Tree Element) (g : Registry) (v : Value) (h : Handle) → AreTypedHolders d t g → IsTaken t w h (recorded g v) → IsTypedElement d t h
  typed_taken t g v h holders taken = subst (λ o. IfSome o (IsTypedElement d t)) taken.named (holders v taken.unmet)

  pub element_taken : (t : Tree Element) (g : Registry) (v : Value) (h : Handle) → IsTree t → AreTypedHolders d t g → IsTaken t w h (recorded g v)
      → IsElementOf d t w (record { at = h; partner = Some h; around = around })
  element_taken t g v h tree holders taken =
      let typed = typed_taken t g v h holders taken in
      let e = live_element t h typed.0 in
      let same = (type_eq-Decides (type_of_look (look_of e.0.widget)) (type_of_look (look_of w))).0 (sym (ap (λ o. is_of_type o w) e.1) ∙ taken.type) in
      old_element t h e.0 tree typed e.1 same

  pub new_made : (t u : Tree Element) (h : Handle) (fields : List Value) → FitFields d (build_role_of (look_of w)) fields → Adds t.nodes u.nodes None 0 h (new_element (made_count t + 1) w fields)
      → IsElementOf d u w (record { at = h; partner = None; around = around })
  new_made t u h fields fit adds =
      let is = added_stored t u h (new_element (made_count t + 1) w fields) adds in
      record {
        live = live_stored u h (new_element (made_count t + 1) w fields) is;
        fit = λ x at. subst (λ y. FitFields d (build_role_of (look_of w)) y.fields) (some_same (sym is ∙ at)) fit;
        partner = tt;
      }
