-- Elements that take widgets, once these are written: what they store stays right, none is written twice, and each keeps its type.
use Rattle.std.proofs.Common.{◌≡◌, ℕ, zero, suc, ◌+◌, ◌≤◌, Bool, true, false, cond, Option, Some, None, IfSome, option_map, List, [], ◌∷◌, ◌++◌, map, refl, sym, ap, ◌∙◌, subst, arith, ◌⊎◌, inl, inr}
use Rattle.std.specs.Prelude.{slice_get}
use Rattle.std.specs.List.{All}
use Rattle.std.specs.Option.{option_to_list}
use Rattle.std.proofs.lemmas.List.Elements.{All-nil, All-cons, All-head, All-tail, All-append, All-weaker}
use Rattle.fx_expr.specs.declared.values.Value.{Value}
use Rattle.fx_handles.specs.declared.Handle.{Handle}
use Rattle.fx_handles.specs.Handle.{same, times, AreDistinct}
use Rattle.fx_handles.specs.HandleLaws.{same-true, same-eq, same-ne, same-false, times-cons}
use Rattle.node_tree.specs.Forest.{TreeNode, Forest, count, In, IsDistinct, map_values, Stands}
use Rattle.node_tree.specs.Forest.Forest.{none, tree}
use Rattle.node_tree.specs.Tree.{Tree, node_at}
use Rattle.node_tree.proofs.ForestLemmas.{is_zero}
use Rattle.widget_model.specs.Plain.{PlainWidget, look_of}
use Rattle.widget_model.specs.Plain.{children_of as child_widgets}
use Rattle.widget_model.specs.Update.{IsSameType}
use Rattle.reconcile.specs.Matching.{matching}
use Rattle.build_form.specs.BuildRole.{build_role_of}
use Rattle.build_form.specs.Entering.{Blueprint, values_by, values_below}
use Rattle.element_tree.specs.Edits.{with_widget}
use Rattle.element_tree.specs.Element.{Element, element_at}
use Rattle.element_tree.specs.Fields.{CanFollow}
use Rattle.work_sets.specs.Members.{is_same_widget}
use Rattle.build_walk.specs.Fresh.{HasOutput}
use Rattle.build_walk.specs.Telling.{HoldOutputs}
use Rattle.settled_builds.specs.Retaken.{gathered, gathered_by, asked_by}
use Rattle.settled_builds.specs.Taken.{has_own_children}
use Rattle.renewed_builds.specs.Renewing.{Change, change_of, order_of, places_of, widgets_in, each_can_take, can_take_drawn, each_changing, changes_of}
use Rattle.renewed_builds.specs.Taking.{FollowsChange, after_changes}
use Rattle.renewed_builds.specs.Going.{KeepsNodes}
use Rattle.renewed_builds.proofs.Gathered.{all_parts}
use Rattle.renewed_builds.proofs.Ordering.{row_seldom}
use Rattle.renewed_builds.proofs.Retaking.{own_gives, own_values}
use Rattle.renewed_builds.proofs.Rows.{TakesIt, taken_parts, follow}
use Rattle.renewed_builds.proofs.Seen.{elements_of, often, often_append, often_times, otherwise_seldom, no_change}
use Rattle.renewed_builds.proofs.Whole.{follows}

-- another widget follows one, and an element has its own children with both
pub record TakesAnother (v w : PlainWidget) : Type 0 where
  pub follows : CanFollow v w
  pub was : has_own_children (build_role_of (look_of v)) ≡ true
  pub now : has_own_children (build_role_of (look_of w)) ≡ true
  pub other : is_same_widget v w ≡ false

abbrev pub IsTaking : Tree Element → Change → Type 0
IsTaking t c = (e : Element) → element_at t c.element ≡ Some e → TakesAnother e.widget c.widget

some_is : {X : Type 0} {x y : X} → Some x ≡ Some y → x ≡ y
some_is e = cc

abbrev pub value_of : Option (TreeNode Element) → Option Element
value_of o = option_map (λ (n : TreeNode Element). n.value) o

-- what is so of the elements as they were is so of those that show the same
pub to_other : (t v : Tree Element) → KeepsNodes t v → (x : Change) → IsTaking t x → IsTaking v x
to_other t v keeps x takes = λ z is.
    let q = keeps x.element z is in
    subst (λ (w : PlainWidget). TakesAnother w x.widget) (sym q.2.widget) (takes q.0 q.1)

-- ---- so it is of what is gathered

module _ (t : Tree Element) where
  one_takes : (p : Option Handle) (h : Handle) (v : Element) (w : PlainWidget) (kids rest : Forest Element) (order : Option (List ℕ)) → Stands (node_at t) p (tree h v kids rest) → TakesIt v w → is_same_widget v.widget w ≡ false
      → (render : Option Handle) → All (IsTaking t) (change_of h render w order)
  one_takes p h v w kids rest order stands takes other None = All-nil (IsTaking t)
  one_takes p h v w kids rest order stands takes other (Some at) =
      All-cons (IsTaking t) (record { element = h; at = at; widget = w; order = order }) []
      (λ e is. subst (λ (x : Element). TakesAnother x.widget w) (some_is (sym (ap value_of stands.0) ∙ is)) (record { follows = follows v w takes; was = takes.was; now = takes.now; other = other }))
      (All-nil (IsTaking t))

  of_either : (own inner : List Change) (b : Bool) → (b ≡ false → All (IsTaking t) own × All (IsTaking t) inner) → All (IsTaking t) (cond {A = List Change} b [] (own ++ inner))
  of_either own inner true p = All-nil (IsTaking t)
  of_either own inner false p = All-append (IsTaking t) own inner (p refl).0 (p refl).1

  each_takes : (p : Option Handle) (f : Forest Element) → Stands (node_at t) p f → (j : ℕ) (w : PlainWidget) (place : ℕ) → asked_by (slice_get (each_can_take f) j) w ≡ true
      → All (IsTaking t) (gathered_by (slice_get (each_changing f) j) w place)
  each_takes p none stands j w place can = All-nil (IsTaking t)
  each_takes p (tree h v kids rest) stands zero w place can =
      let ms = matching (widgets_in kids) (child_widgets w) in
      of_either (change_of h v.render w (order_of (places_of ms))) (gathered (each_changing kids) 0 (child_widgets w) ms) (is_same_widget v.widget w)
      (λ other.
      let parts = taken_parts v (widgets_in kids) (each_can_take kids) w other can in (
        one_takes p h v w kids rest (order_of (places_of ms)) stands parts.0 other v.render,
        all_parts (IsTaking t) (each_changing kids) (each_can_take kids) (each_takes (Some h) kids stands.1) 0 (child_widgets w) ms parts.1.asked,
      ))
  each_takes p (tree h v kids rest) stands (suc j) w place can = each_takes p rest stands.2 j w place can

  pub all_taking : (p : Option Handle) (f : Forest Element) (ws : List PlainWidget) → Stands (node_at t) p f → can_take_drawn f ws ≡ true → All (IsTaking t) (changes_of f ws)
  all_taking p f ws stands can =
      all_parts (IsTaking t) (each_changing f) (each_can_take f) (each_takes p f stands) 0 ws (matching (widgets_in f) ws) (follow (widgets_in f) ws (each_can_take f) can).asked

  pub taking_follows : (cs : List Change) → All (IsTaking t) cs → All (FollowsChange t) cs
  taking_follows cs all = All-weaker (IsTaking t) (FollowsChange t) (λ c takes e is. (takes e is).follows) cs all

-- ---- what an element becomes

pub record Became (e v : Element) : Type 0 where
  pub type : IsSameType e.widget v.widget
  pub own : (v ≡ e) ⊎ ((has_own_children (build_role_of (look_of e.widget)) ≡ true) × (has_own_children (build_role_of (look_of v.widget)) ≡ true))

module _ (t : Tree Element) (k : Handle) (e : Element) (at : element_at t k ≡ Some e) where
  became_one : (c : Change) (v : Element) → IsTaking t c → Became e v → (b : Bool) → same k c.element ≡ b → Became e (cond b (with_widget c.widget v) v)
  became_one c v takes was true is =
      let it = takes e (ap (element_at t) (sym (same-true k c.element is)) ∙ at) in
      record { type = it.follows.updates.type; own = inr (it.was, it.now) }
  became_one c v takes was false is = was

  became_all : (cs : List Change) (v : Element) → All (IsTaking t) cs → Became e v → Became e (after_changes cs k v)
  became_all [] v all was = was
  became_all (c ∷ cs) v all was =
      became_all cs (cond (same k c.element) (with_widget c.widget v) v) (All-tail (IsTaking t) c cs all) (became_one c v (All-head (IsTaking t) c cs all) was (same k c.element) refl)

  pub becomes : (cs : List Change) → All (IsTaking t) cs → Became e (after_changes cs k e)
  becomes cs all = became_all cs e all (record { type = refl; own = inl refl })

  -- where one of the changes is its own it has another widget then
  back : (h : Handle) → same k h ≡ true → cond {A = ℕ} (same h k) 1 0 ≡ 1
  back h is = ap (λ b. cond {A = ℕ} b 1 0) (same-eq h k (sym (same-true k h is)))

  ahead : (h : Handle) → same k h ≡ false → cond {A = ℕ} (same h k) 1 0 ≡ 0
  ahead h is = ap (λ b. cond {A = ℕ} b 1 0) (same-ne h k (λ e. same-false k h is (sym e)))

  none_more : (cs : List Change) (v : Element) → times k (elements_of cs) ≡ 0 → after_changes cs k v ≡ v
  none_more [] v absent = refl
  none_more (c ∷ cs) v absent = by_same (same k c.element) refl (none_more cs v (let one = times-cons k c.element (elements_of cs) in omega (arith, one, absent)))
    where
      by_same : (b : Bool) → same k c.element ≡ b → after_changes cs k v ≡ v → after_changes cs k (cond b (with_widget c.widget v) v) ≡ v
      by_same true is more = absurd (let one = times-cons k c.element (elements_of cs) in let own = back c.element is in omega (arith, one, own, absent))
      by_same false is more = more

  pub other_then : (cs : List Change) (v : Element) → All (IsTaking t) cs → 1 ≤ times k (elements_of cs) → is_same_widget e.widget (after_changes cs k v).widget ≡ false
  other_then [] v all inside = absurd (omega (arith, inside))
  other_then (c ∷ cs) v all inside = elim (is_zero (times k (elements_of cs))) [
    | inl absent ↦ by_same (same k c.element) refl absent
    | inr later ↦ other_then cs (cond (same k c.element) (with_widget c.widget v) v) (All-tail (IsTaking t) c cs all) later
  ]
    where
      by_same : (b : Bool) → same k c.element ≡ b → times k (elements_of cs) ≡ 0 → is_same_widget e.widget (after_changes cs k (cond b (with_widget c.widget v) v)).widget ≡ false
      by_same true is absent =
          ap (λ (x : Element). is_same_widget e.widget x.widget) (none_more cs (with_widget c.widget v) absent)
          ∙ (All-head (IsTaking t) c cs all e (ap (element_at t) (sym (same-true k c.element is)) ∙ at)).other
      by_same false is absent = absurd (let one = times-cons k c.element (elements_of cs) in let none = ahead c.element is in omega (arith, one, none, absent, inside))

-- ---- none is written twice

times_append : (k : Handle) (xs ys : List Change) → times k (elements_of (xs ++ ys)) ≡ times k (elements_of xs) + times k (elements_of ys)
times_append k [] ys = omega arith
times_append k (x ∷ xs) ys =
    let one = times-cons k x.element (elements_of xs) in
    let both = times-cons k x.element (elements_of (xs ++ ys)) in
    let more = times_append k xs ys in
    omega (arith, one, both, more)

-- what is gathered of a forest is of its handles
absent_there : (k : Handle) (f : Forest Element) (ws : List PlainWidget) → count k f ≡ 0 → times k (elements_of (changes_of f ws)) ≡ 0
absent_there k f ws absent =
    let is = often_times k (changes_of f ws) 0 in
    let none = no_change (often k) (λ x. refl) (often_append k) k (otherwise_seldom k) f absent 0 ws (matching (widgets_in f) ws) 0 in
    omega (arith, is, none)

module _ (differ_law : (v : PlainWidget) → is_same_widget v v ≡ true) (t : Tree Element) (cs : List Change) (all : All (IsTaking t) cs) where
  -- an element of a forest that isn't changed has no change
  unchanged : (p : Option Handle) (f : Forest Element) (k : Handle) → Stands (node_at t) p f → map_values (after_changes cs) f ≡ f → In k f → times k (elements_of cs) ≡ 0
  unchanged p none k stands is inside = absurd (omega (arith, inside))
  unchanged p (tree h e kids rest) k stands is inside =
      elim (is_zero (count k kids)) [
        | inl not_below ↦
            elim (is_zero (count k rest)) [
              | inl not_later ↦ own (same h k) refl not_below not_later
              | inr later ↦ unchanged p rest k stands.2 (ap rest_of is) later
            ]
        | inr low ↦ unchanged (Some h) kids k stands.1 (ap kids_of is) low
      ]
    where
      kids_of : Forest Element → Forest Element
      kids_of none = none
      kids_of (tree x v low more) = low

      rest_of : Forest Element → Forest Element
      rest_of none = none
      rest_of (tree x v low more) = more

      value_in : Element → Forest Element → Element
      value_in d none = d
      value_in d (tree x v low more) = v

      same_again : {P : Type 0} (b : Bool) → b ≡ true → b ≡ false → P
      same_again true a c = cc
      same_again false a c = cc

      at : element_at t h ≡ Some e
      at = ap value_of stands.0

      here : (n : ℕ) → times h (elements_of cs) ≡ n → times h (elements_of cs) ≡ 0
      here zero absent = absent
      here (suc n) some =
          same_again (is_same_widget e.widget e.widget) (differ_law e.widget)
          (ap (λ (x : Element). is_same_widget e.widget x.widget) (sym (ap (value_in e) is)) ∙ other_then t h e at cs e all (omega (arith, some)))

      own : (b : Bool) → same h k ≡ b → count k kids ≡ 0 → count k rest ≡ 0 → times k (elements_of cs) ≡ 0
      own true same_one no_low no_more = ap (λ (x : Handle). times x (elements_of cs)) (sym (same-true h k same_one)) ∙ here (times h (elements_of cs)) refl
      own false apart no_low no_more = absurd (let none : cond {A = ℕ} (same h k) 1 0 ≡ 0 = ap (λ b. cond {A = ℕ} b 1 0) apart in omega (arith, inside, none, no_low, no_more))

  -- so the changes of such a forest are of other elements
  pub differ_then : (p : Option Handle) (f : Forest Element) (ws : List PlainWidget) → Stands (node_at t) p f → IsDistinct f → map_values (after_changes cs) f ≡ f → can_take_drawn f ws ≡ true → AreDistinct (elements_of cs)
      → AreDistinct (elements_of (cs ++ changes_of f ws))
  differ_then p f ws stands distinct is can apart = λ k.
      let both = times_append k cs (changes_of f ws) in
      let own = row_seldom k f distinct ws (follow (widgets_in f) ws (each_can_take f) can) in
      let before = apart k in
      elim (is_zero (count k f)) [
        | inl outside ↦ (let none = absent_there k f ws outside in omega (arith, both, none, before))
        | inr inside ↦ (let none = unchanged p f k stands is inside in omega (arith, both, none, own))
      ]

-- ---- what they store

pub values_then : (e v : Element) (values : List Value) → Became e v → values_below v.widget values ≡ values_below e.widget values
values_then e v values was = by_own was.own
  where
    by_own : (v ≡ e) ⊎ ((has_own_children (build_role_of (look_of e.widget)) ≡ true) × (has_own_children (build_role_of (look_of v.widget)) ≡ true)) → values_below v.widget values ≡ values_below e.widget values
    by_own (inl is) = ap (λ (x : Element). values_below x.widget values) is
    by_own (inr own) = own_values (build_role_of (look_of v.widget)) values own.1 ∙ sym (own_values (build_role_of (look_of e.widget)) values own.0)

module _ (b : Blueprint) (t : Tree Element) (cs : List Change) (all : All (IsTaking t) cs) where
  abbrev HoldsOne : List Value → Element → Type 0
  HoldsOne values v = v.dirty ≡ false → HasOutput b (build_role_of (look_of v.widget)) v.widget v.fields values v.number (option_to_list v.output)

  holds_then : (e v : Element) (values : List Value) → Became e v → HoldsOne values e → HoldsOne values v
  holds_then e v values was held = by_own was.own
    where
      by_own : (v ≡ e) ⊎ ((has_own_children (build_role_of (look_of e.widget)) ≡ true) × (has_own_children (build_role_of (look_of v.widget)) ≡ true)) → HoldsOne values v
      by_own (inl is) = subst (HoldsOne values) (sym is) held
      by_own (inr own) = λ clean. own_gives b (build_role_of (look_of v.widget)) v.widget v.fields values v.number (option_to_list v.output) own.1

  pub hold_written : (p : Option Handle) (values : List Value) (f : Forest Element) → Stands (node_at t) p f → HoldOutputs b values f → HoldOutputs b values (map_values (after_changes cs) f)
  hold_written p values none stands held = tt
  hold_written p values (tree h e kids rest) stands held =
      let was = becomes t h e (ap value_of stands.0) cs all in (
        holds_then e (after_changes cs h e) values was held.0,
        subst (λ (vs : List Value). HoldOutputs b vs (map_values (after_changes cs) kids)) (sym (values_then e (after_changes cs h e) values was)) (hold_written (Some h) (values_below e.widget values) kids stands.1 held.1),
        hold_written p values rest stands.2 held.2,
      )
