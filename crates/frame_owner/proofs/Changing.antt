-- What changes of render nodes where elements take widgets: each is the node of an element, no node changes twice, and each gets the look that
-- the element's node has then.
use Rattle.std.proofs.Common.{◌≡◌, ◌≢◌, ◌⊎◌, ℕ, zero, suc, ◌≤◌, ◌==◌, Bool, true, false, not, ◌&&◌, ◌||◌, cond, Option, Some, None, is_some, option_map, List, [], ◌∷◌, map, refl, sym, ap, subst, ◌∙◌, inl, inr, arith, true≢false}
use Rattle.std.proofs.lemmas.List.Elements.{All-nil, All-cons}
use Rattle.std.specs.List.{All, find}
use Rattle.fx_handles.specs.declared.Handle.{Handle}
use Rattle.fx_handles.specs.Handle.{same, times, AreDistinct}
use Rattle.fx_handles.specs.HandleLaws.{cases_same, same-eq, same-ne, same_self, times-cons}
use Rattle.fx_handles.specs.ArenaLaws.{same_Some}
use Rattle.node_tree.specs.Tree.{Tree}
use Rattle.widget_model.specs.Look.{Look, sliver_lazy}
use Rattle.widget_model.specs.Plain.{PlainWidget, look_of}
use Rattle.widget_model.specs.Plain.{children_of as child_widgets}
use Rattle.widget_model.specs.Update.{updates, IsSameType}
use Rattle.widget_model.specs.UpdateLaws.{updates_mean}
use Rattle.widget_model.specs.WidgetType.{type_of}
use Rattle.plain_tree.specs.Render.{lazy_count}
use Rattle.plain_tree.specs.RenderRole.{render_role_of, vanishes}
use Rattle.build_form.specs.BuildRole.{build_role_of}
use Rattle.element_tree.specs.Element.{Element, element_at}
use Rattle.render_tree.specs.Object.{RenderObject, object_look}
use Rattle.render_tree.specs.Plain.{lazy_children}
use Rattle.render_tree.specs.Tree.{object_at}
use Rattle.render_sync.specs.Numbering.{NumbersDiffer}
use Rattle.build_walk.specs.Renewing.{role_of}
use Rattle.settled_builds.specs.Looks.{NewLook, look_or, look_after}
use Rattle.settled_builds.specs.Rearranged.{NewOrder}
use Rattle.settled_builds.specs.Taken.{has_own_children}
use Rattle.renewed_builds.specs.Renewing.{Change, draws_its_own, takes_in_place}
use Rattle.kept_builds.specs.Standing.{NumbersOnce}
use Rattle.frame_owner.specs.InPlace.{IsToldChange, AreToldChanges}
use Rattle.frame_owner.specs.Redrawing.{widget_after, CanOrder, CanRedraw}
use Rattle.frame_owner.proofs.Finding.{at_own, at_other}
use Rattle.frame_owner.proofs.Windows.{ElementNode}

-- ---- tests

pub both : (a b : Bool) → (a && b) ≡ true → (a ≡ true) × (b ≡ true)
both true b e = (refl, e)
both false b e = cc

pub or_other : (a b : Bool) → a ≡ false → (a || b) ≡ true → b ≡ true
or_other true b e d = cc
or_other false b e d = d

not_true : (b : Bool) → not b ≡ true → b ≡ false
not_true true e = cc
not_true false e = refl

some_none : {A : Type 0} {a : A} → None ≡ Some a → ⊥
some_none e = cc

-- what it says that an element takes a widget
pub record Takes (e : Element) (w : PlainWidget) : Type 0 where
  pub type : IsSameType e.widget w
  pub was_own : has_own_children (build_role_of (look_of e.widget)) ≡ true
  pub was_drawn : vanishes (role_of e) ≡ false
  pub now_own : has_own_children (build_role_of (look_of w)) ≡ true

pub takes_of : (e : Element) (w : PlainWidget) → takes_in_place e w ≡ true → Takes e w
takes_of e w can =
    let p = both (updates e.widget w) (draws_its_own (look_of e.widget) && (draws_its_own (look_of w) && is_some e.render)) can in
    let q = both (draws_its_own (look_of e.widget)) (draws_its_own (look_of w) && is_some e.render) p.1 in
    let was = both (has_own_children (build_role_of (look_of e.widget))) (not (vanishes (role_of e))) q.0 in
    let now = both (has_own_children (build_role_of (look_of w))) (not (vanishes (render_role_of (look_of w)))) (both (draws_its_own (look_of w)) (is_some e.render) q.1).0 in
    record {
      type = ((updates_mean e.widget w).0 p.0).type;
      was_own = was.0;
      was_drawn = not_true (vanishes (role_of e)) was.1;
      now_own = now.0;
    }

-- a kind that has its own children is no lazy list
never_lazy : (l : Look) (ws : List PlainWidget) → has_own_children (build_role_of l) ≡ true → lazy_count (render_role_of l) ws ≡ 0
never_lazy (sliver_lazy extent) ws on = absurd (true≢false (sym on))
never_lazy l ws on = refl

-- ---- one change

module _ (t : Tree Element) (r : Tree RenderObject) where
  -- it is of an element's render node, which gets the widget that the element takes
  pub record IsChangeOf (c : Change) (l : NewLook) : Type 0 where
    pub element : Element
    pub stored : element_at t c.element ≡ Some element
    pub takes : Takes element c.widget
    pub object : RenderObject
    pub there : object_at r c.at ≡ Some object
    pub number_is : object.number ≡ element.number
    pub look_is : object_look object ≡ look_of element.widget
    pub said_number : l.number ≡ element.number
    pub said_look : l.look ≡ look_of c.widget

  -- so it is of each change of a list, in step with the new looks
  abbrev pub AreChangesOf : List Change → List NewLook → Type 0
  AreChangesOf [] [] = Unit {0}
  AreChangesOf [] (l ∷ ls) = ⊥
  AreChangesOf (c ∷ cs) [] = ⊥
  AreChangesOf (c ∷ cs) (l ∷ ls) = IsChangeOf c l × AreChangesOf cs ls

  -- ---- no node changes twice

  pub record ChangeAt (cs : List Change) (k : Handle) : Type 0 where
    pub change : Change
    pub new : NewLook
    pub is : IsChangeOf change new
    pub at : change.at ≡ k
    pub among : 1 ≤ times change.element (map (λ (c : Change). c.element) cs)

  find_change : (cs : List Change) (ls : List NewLook) → AreChangesOf cs ls → (k : Handle) → 1 ≤ times k (map (λ (c : Change). c.at) cs) → ChangeAt cs k
  find_change [] ls all k some = absurd (omega (arith, some))
  find_change (c ∷ cs) [] all k some = absurd all
  find_change (c ∷ cs) (l ∷ ls) all k some = elim (cases_same c.at k) [
    | inl e ↦
        record {
          change = c;
          new = l;
          is = all.0;
          at = e;
          among = let here : cond {A = ℕ} (same c.element c.element) 1 0 ≡ 1 = ap (λ (b : Bool). cond {A = ℕ} b 1 0) (same_self c.element) in let parts = times-cons c.element c.element (map (λ (d : Change). d.element) cs) in omega (arith, here, parts);
        }
    | inr ne ↦
        let here : cond {A = ℕ} (same c.at k) 1 0 ≡ 0 = ap (λ (b : Bool). cond {A = ℕ} b 1 0) (same-ne c.at k ne) in
        let parts = times-cons k c.at (map (λ (d : Change). d.at) cs) in
        let found = find_change cs ls all.1 k (omega (arith, some, here, parts)) in
        record {
          change = found.change;
          new = found.new;
          is = found.is;
          at = found.at;
          among = let more = times-cons found.change.element c.element (map (λ (d : Change). d.element) cs) in let one = found.among in omega (arith, more, one);
        }
  ]

  pub distinct_nodes : NumbersOnce t → (cs : List Change) (ls : List NewLook) → AreChangesOf cs ls → AreDistinct (map (λ (c : Change). c.element) cs) → AreDistinct (map (λ (c : Change). c.at) cs)
  distinct_nodes once [] ls all apart k = omega arith
  distinct_nodes once (c ∷ cs) [] all apart k = absurd all
  distinct_nodes once (c ∷ cs) (l ∷ ls) all apart k =
      by_at (cases_same c.at k)
      (distinct_nodes once cs ls all.1 (λ h. let more = times-cons h c.element (map (λ (d : Change). d.element) cs) in let one = apart h in omega (arith, more, one)) k)
    where
      -- another change of that node would be of the same element
      twice : (c.at ≡ k) → 1 ≤ times k (map (λ (d : Change). d.at) cs) → ⊥
      twice e some =
          let d = find_change cs ls all.1 k some in
          let objects : d.is.object ≡ all.0.object = same_Some (sym d.is.there ∙ (ap (object_at r) (d.at ∙ sym e) ∙ all.0.there)) in
          let numbers : d.is.element.number ≡ all.0.element.number = sym d.is.number_is ∙ (ap (λ (o : RenderObject). o.number) objects ∙ all.0.number_is) in
          let elements : d.change.element ≡ c.element =
          once all.0.element.number d.change.element c.element
          (ap (option_map (λ (x : Element). x.number)) d.is.stored ∙ ap (λ n. Some n) numbers) (ap (option_map (λ (x : Element). x.number)) all.0.stored) in
          let among : 1 ≤ times c.element (map (λ (x : Change). x.element) cs) = subst (λ h. 1 ≤ times h (map (λ (x : Change). x.element) cs)) elements d.among in
          let here : cond {A = ℕ} (same c.element c.element) 1 0 ≡ 1 = ap (λ (b : Bool). cond {A = ℕ} b 1 0) (same_self c.element) in
          let parts = times-cons c.element c.element (map (λ (x : Change). x.element) cs) in
          let one = apart c.element in
          omega (arith, among, here, parts, one)

      by_count : (c.at ≡ k) → (n : ℕ) → times k (map (λ (d : Change). d.at) cs) ≡ n → times k (map (λ (d : Change). d.at) (c ∷ cs)) ≤ 1
      by_count e zero z =
          let parts = times-cons k c.at (map (λ (d : Change). d.at) cs) in
          let here : cond {A = ℕ} (same c.at k) 1 0 ≡ 1 = ap (λ (b : Bool). cond {A = ℕ} b 1 0) (same-eq c.at k e) in
          omega (arith, parts, here, z)
      by_count e (suc n) z = absurd (twice e (omega (arith, z)))

      by_at : (c.at ≡ k) ⊎ (c.at ≢ k) → times k (map (λ (d : Change). d.at) cs) ≤ 1 → times k (map (λ (d : Change). d.at) (c ∷ cs)) ≤ 1
      by_at (inl e) few = by_count e (times k (map (λ (d : Change). d.at) cs)) refl
      by_at (inr ne) few =
          let parts = times-cons k c.at (map (λ (d : Change). d.at) cs) in
          let here : cond {A = ℕ} (same c.at k) 1 0 ≡ 0 = ap (λ (b : Bool). cond {A = ℕ} b 1 0) (same-ne c.at k ne) in
          omega (arith, parts, here, few)

  -- ---- the render nodes can take them

  each_can : (cs : List Change) (ls : List NewLook) → AreChangesOf cs ls → All (λ (c : Change). (o : RenderObject) × (object_at r c.at ≡ Some o) × IsSameType o.widget c.widget) cs
  each_can [] ls all = All-nil (λ (c : Change). (o : RenderObject) × (object_at r c.at ≡ Some o) × IsSameType o.widget c.widget)
  each_can (c ∷ cs) [] all = absurd all
  each_can (c ∷ cs) (l ∷ ls) all =
      All-cons (λ (d : Change). (o : RenderObject) × (object_at r d.at ≡ Some o) × IsSameType o.widget d.widget) c cs (all.0.object, all.0.there, ap type_of all.0.look_is ∙ all.0.takes.type) (each_can cs ls all.1)

  pub can_redraw : NumbersOnce t → (cs : List Change) (ls : List NewLook) → AreChangesOf cs ls → All (CanOrder r) cs → AreDistinct (map (λ (c : Change). c.element) cs) → CanRedraw r cs
  can_redraw once cs ls all orders apart = record { each = each_can cs ls all; orders = orders; once = distinct_nodes once cs ls all apart }

  -- ---- the looks

  module _ (differ : NumbersDiffer r) (k : Handle) (o : RenderObject) (at : object_at r k ≡ Some o) where
    -- a node with the number of a change is the change's
    number_at_change : (c : Change) (l : NewLook) → IsChangeOf c l → l.number ≡ o.number → k ≡ c.at
    number_at_change c l is e =
        differ o.number k c.at (ap (option_map (λ (x : RenderObject). x.number)) at)
        (ap (option_map (λ (x : RenderObject). x.number)) is.there ∙ ap (λ n. Some n) (is.number_is ∙ (sym is.said_number ∙ e)))

    change_number : (c : Change) (l : NewLook) → IsChangeOf c l → k ≡ c.at → l.number ≡ o.number
    change_number c l is e =
        is.said_number ∙ (sym is.number_is ∙ ap (λ (x : RenderObject). x.number) (same_Some (sym is.there ∙ (ap (object_at r) (sym e) ∙ at))))

    pub look_then : (cs : List Change) (ls : List NewLook) → AreChangesOf cs ls → look_of (widget_after cs k o.widget) ≡ look_after ls o.number (object_look o)
    look_then [] [] all = refl
    look_then [] (l ∷ ls) all = absurd all
    look_then (c ∷ cs) [] all = absurd all
    look_then (c ∷ cs) (l ∷ ls) all = elim (cases_same k c.at) [
      | inl e ↦
          ap (λ (b : Bool). look_of (cond {A = PlainWidget} b c.widget (widget_after cs k o.widget))) (same-eq k c.at e)
          ∙ (sym all.0.said_look
          ∙ sym (ap (λ (n : Option NewLook). look_or n (object_look o)) (at_own l.number o.number (Some l) (find (λ (n : NewLook). n.number == o.number) ls) (change_number c l all.0 e))))
      | inr ne ↦
          ap (λ (b : Bool). look_of (cond {A = PlainWidget} b c.widget (widget_after cs k o.widget))) (same-ne k c.at ne)
          ∙ (look_then cs ls all.1
          ∙ sym (ap (λ (n : Option NewLook). look_or n (object_look o)) (at_other l.number o.number (Some l) (find (λ (n : NewLook). n.number == o.number) ls) (λ e. ne (number_at_change c l all.0 e)))))
    ]

    pub lazy_then : (cs : List Change) (ls : List NewLook) → AreChangesOf cs ls → lazy_count (render_role_of (look_of (widget_after cs k o.widget))) (child_widgets (widget_after cs k o.widget)) ≡ lazy_children o
    lazy_then [] ls all = refl
    lazy_then (c ∷ cs) [] all = absurd all
    lazy_then (c ∷ cs) (l ∷ ls) all = elim (cases_same k c.at) [
      | inl e ↦
          let is : all.0.object ≡ o = same_Some (sym all.0.there ∙ (ap (object_at r) (sym e) ∙ at)) in
          let own : has_own_children (build_role_of (object_look o)) ≡ true =
          subst (λ (x : RenderObject). has_own_children (build_role_of (object_look x)) ≡ true) is (ap (λ (x : Look). has_own_children (build_role_of x)) all.0.look_is ∙ all.0.takes.was_own) in
          ap (λ (b : Bool). let w = cond {A = PlainWidget} b c.widget (widget_after cs k o.widget) in lazy_count (render_role_of (look_of w)) (child_widgets w)) (same-eq k c.at e)
          ∙ (never_lazy (look_of c.widget) (child_widgets c.widget) all.0.takes.now_own ∙ sym (never_lazy (object_look o) (child_widgets o.widget) own))
      | inr ne ↦
          ap (λ (b : Bool). let w = cond {A = PlainWidget} b c.widget (widget_after cs k o.widget) in lazy_count (render_role_of (look_of w)) (child_widgets w)) (same-ne k c.at ne)
          ∙ lazy_then cs ls all.1
    ]

  -- ---- of what is told of elements

  module _ (drawn : (h : Handle) (e : Element) → element_at t h ≡ Some e → vanishes (role_of e) ≡ false → ElementNode r e) where
    change_is : (c : Change) (l : NewLook) (o : NewOrder) → IsToldChange t c l o → IsChangeOf c l
    change_is c l o x =
        let own = takes_of x.element c.widget x.takes in
        let d = drawn c.element x.element x.stored own.was_drawn in
        let at : d.handle ≡ c.at = same_Some (sym d.named ∙ x.named) in
        record {
          element = x.element;
          stored = x.stored;
          takes = own;
          object = d.object;
          there = ap (object_at r) (sym at) ∙ d.there;
          number_is = d.number_is;
          look_is = d.look_is;
          said_number = ap (λ (n : NewLook). n.number) x.look;
          said_look = ap (λ (n : NewLook). n.look) x.look;
        }

    pub changes_are : (cs : List Change) (ls : List NewLook) (os : List NewOrder) → AreToldChanges t cs ls os → AreChangesOf cs ls
    changes_are [] [] os all = tt
    changes_are [] (l ∷ ls) os all = absurd all
    changes_are (c ∷ cs) [] os all = absurd all
    changes_are (c ∷ cs) (l ∷ ls) [] all = absurd all
    changes_are (c ∷ cs) (l ∷ ls) (o ∷ os) all = (change_is c l o all.0, changes_are cs ls os all.1)
