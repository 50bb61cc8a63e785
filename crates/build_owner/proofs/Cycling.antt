-- What the walk has come to, part by part.
use Rattle.std.proofs.Common.{◌≡◌, ℕ, suc, ◌+◌, ◌-◌, Bool, true, false, cond, Option, Some, None, IfSome, Result, Ok, Err, IfOk, List, [], ◌∷◌, ◌++◌, map, take, option_map, refl, sym, ap, ◌∙◌, subst, arith}
use Rattle.std.specs.List.{All}
use Rattle.std.specs.Result.{IfErr, OnOk}
use Rattle.std.proofs.lemmas.List.{map-append}
use Rattle.fx_expr.specs.declared.values.Value.{Value}
use Rattle.fx_handles.specs.declared.Handle.{Handle}
use Rattle.node_tree.specs.Children.{Keeps}
use Rattle.node_tree.specs.Plan.{PlanEntry, planned}
use Rattle.node_tree.specs.Tree.{Tree}
use Rattle.widget_model.specs.Look.{Look, sliver_lazy}
use Rattle.widget_model.specs.Plain.{PlainWidget, look_of}
use Rattle.widget_model.specs.Plain.{children_of as child_widgets}
use Rattle.widget_model.specs.Typed.{Declarations}
use Rattle.plain_tree.specs.RenderRole.{render_role_of, vanishes}
use Rattle.build_form.specs.BuildRole.{BuildRole, composes, provides, keeps as keeps_child, lists, holds, build_role_of, is_lazy}
use Rattle.build_form.specs.declared.faults.FrameFault.{FrameFault}
use Rattle.build_form.specs.Entering.{Basis, Phase, first, second, values_by, values_below, waits, Opening}
use Rattle.build_form.specs.FaultView.{fault_of}
use Rattle.build_form.specs.Partner.{Arrival as ArrivalOf}
use Rattle.build_form.specs.Step.{Fault, Progress}
use Rattle.build_form.proofs.Entered.{all_pushed}
use Rattle.element_tree.specs.Element.{Element, element_at, number_at, made_count}
use Rattle.element_tree.specs.Renewal.{Renewal}
use Rattle.global_keys.specs.Holders.{Registry, is_met}
use Rattle.render_tree.specs.Object.{RenderObject}
use Rattle.render_tree.specs.Redraw.{Redraw}
use Rattle.build_walk.specs.Counting.{builds_from, builds_by_each}
use Rattle.build_walk.specs.Entered.{IsEntered, AreEntered, IsEnteredBelow}
use Rattle.build_walk.specs.Keeping.{reenter}
use Rattle.build_walk.specs.Kept.{plain_at_any}
use Rattle.build_walk.specs.Past.{Pasts}
use Rattle.build_walk.specs.Renewing.{role_of, IsDrawn, Unless}
use Rattle.build_walk.specs.Serving.{WaitingList}
use Rattle.build_walk.specs.Walked.{WalkPlans, WalkPlace, element_entry, render_entry, extent_in, list_at, planned_under}
use Rattle.build_owner.specs.declared.arriving.Arrival.{Arrival}
use Rattle.build_owner.specs.declared.source.WalkSource.{WalkSource}
use Rattle.build_owner.specs.declared.walk.WaitingSpot.{WaitingSpot}
use Rattle.build_owner.specs.declared.walk.BuildWalk.{BuildWalk}
use Rattle.build_owner.specs.Entry.{IsTypedSpot, AreTypedSpots, AreOldSpots, with_element, half_of, number_or}
use Rattle.build_owner.specs.LastFrame.{LastFrame, IsOld, IsSince}
use Rattle.build_owner.specs.Making.{MakesNodes}
use Rattle.build_owner.specs.Naming.{AreHeld}
use Rattle.build_owner.specs.Ready.{IsReadyToWalk}
use Rattle.build_owner.specs.WalkView.{basis_of, declared_by, program_of, plain_arrival, progress_of, list_for, waiting_of, plans_of}

-- ---- widgets one after another: what was entered so far

pub record SoFar (from : WalkSource) (phase : Phase) (left : ℕ) (values olds now was : List Value) (place : WalkPlace) (arriving : List Arrival) (i : ℕ) (t u : Tree Element) (r s : Tree RenderObject) (g k : Registry)
    (before after : BuildWalk) (count builds : ℕ) (hs : List Handle) : Type 0 where
  pub entered : (f : LastFrame) → IsSince (program_of from).defaults f t r g → All (λ (a : Arrival). IfSome a.beside (IsOld f olds)) arriving
      → AreEntered (basis_of from f) f.pasts phase left values f.scrolled place (take i (map (plain_arrival f) arriving)) (progress_of f before g t) (progress_of f after k u) u s (plans_of before) (plans_of after) hs
  pub builds_are : (f : LastFrame) → IsSince (program_of from).defaults f t r g → All (λ (a : Arrival). IfSome a.beside (IsOld f olds)) arriving
      → builds ≡ count + builds_by_each (reenter (basis_of from f) f.pasts phase left values) (builds_from (basis_of from f) f.pasts phase left values) (take i (map (plain_arrival f) arriving)) (progress_of f before g t)
  pub since : (f : LastFrame) → IsSince (program_of from).defaults f t r g → IsSince (program_of from).defaults f u s k
  pub keeps : Keeps t u
  pub keeps_drawn : Keeps r s
  pub makes_drawn : MakesNodes (made_count t) (made_count u) r s
  pub ready : IsReadyToWalk (declared_by from) (program_of from).nodes after.entered u s k
  pub spots : AreTypedSpots (declared_by from) u after.spots.items
  pub old_spots : (f : LastFrame) → IsSince (program_of from).defaults f t r g → All (λ (a : Arrival). IfSome a.beside (IsOld f olds)) arriving → AreOldSpots f before.spots.items → AreOldSpots f after.spots.items
  pub none_waits : phase ≡ second → after.spots.items ≡ before.spots.items
  pub held : (xs : List Handle) → AreHeld g t (xs ++ planned before.elements.items) → AreHeld k u (xs ++ planned after.elements.items)
  pub now_is : now ≡ values
  pub was_is : was ≡ olds

-- ---- plans

pub planned_plans : (w v : BuildWalk) (e : PlanEntry Renewal) → v ≡ record w { elements = v.elements } → v.elements.items ≡ w.elements.items ++ e ∷ [] → plans_of v ≡ with_element e (plans_of w)
planned_plans w v e others pushed = λ i. record {
  elements = pushed i;
  renders = (others i).renders.items;
  tops = (others i).tops.items;
  lists = map (λ (s : WaitingSpot). s.at) (others i).spots.items;
  waiting = map waiting_of (others i).spots.items;
}

-- a widget without a render node isn't put off
role_not_put_off : (l : Look) → vanishes (render_role_of l) ≡ true → is_lazy (build_role_of l) ≡ false
role_not_put_off (sliver_lazy extent) e = cc
role_not_put_off l e = cc

lazy_alone : (phase : Phase) (r : BuildRole) → is_lazy r ≡ false → waits phase r ≡ false
lazy_alone first (composes place props) e = refl
lazy_alone first (provides name value) e = refl
lazy_alone first (keeps_child kept) e = refl
lazy_alone first (lists extent) e = cc
lazy_alone first holds e = refl
lazy_alone second r e = refl

pub seen_alone : (phase : Phase) (l : Look) → vanishes (render_role_of l) ≡ true → waits phase (build_role_of l) ≡ false
seen_alone phase l e = lazy_alone phase (build_role_of l) (role_not_put_off l e)

pub whole_half : (phase : Phase) (w : PlainWidget) (before after : BuildWalk) → waits phase (build_role_of (look_of w)) ≡ false → half_of phase w before after ≡ plans_of after
whole_half phase w before after e = λ i. record {
  elements = after.elements.items;
  renders = after.renders.items;
  tops = after.tops.items;
  lists = cond (e i) (plans_of before).lists (plans_of after).lists;
  waiting = cond (e i) (plans_of before).waiting (plans_of after).waiting;
}

-- ---- a widget: what it planned, beside what its element and its render node plan

module _ (from : Basis) (pasts : Pasts) (phase : Phase) (left : ℕ) (values : List Value) (scrolled : ℕ → ℕ) (at : WalkPlace) (a : ArrivalOf) (before : Progress) (t : Tree Element) (r : Tree RenderObject) (h : Handle) where
  -- the same as the program says it
  pub entered_as : (p q : Progress) (old older new newer : WalkPlans) → p ≡ q → old ≡ older → new ≡ newer
      → IsEntered from pasts phase left values scrolled at a before p t r old new h → IsEntered from pasts phase left values scrolled at a before q t r older newer h
  entered_as p q old older new newer after begins ends entered =
      subst (λ s. IsEntered from pasts phase left values scrolled at a before s t r older newer h) after
      (subst (λ x. IsEntered from pasts phase left values scrolled at a before p t r x newer h) begins
      (subst (λ x. IsEntered from pasts phase left values scrolled at a before p t r old x h) ends entered))

-- what is below a widget is the same as the program says it
module _ (from : Basis) (pasts : Pasts) (phase : Phase) (left : ℕ) (values : List Value) (scrolled : ℕ → ℕ) (w : PlainWidget) (o : Opening) (before after : Progress) (t : Tree Element) (r : Tree RenderObject) (hs : List Handle) where
  pub below_as : (at also : WalkPlace) (old older new newer : WalkPlans) → at ≡ also → old ≡ older → new ≡ newer
      → IsEnteredBelow from pasts phase left values scrolled at w o before after t r old new hs → IsEnteredBelow from pasts phase left values scrolled also w o before after t r older newer hs
  below_as at also old older new newer place begins ends entered =
      subst (λ p. IsEnteredBelow from pasts phase left values scrolled p w o before after t r older newer hs) place
      (subst (λ x. IsEnteredBelow from pasts phase left values scrolled at w o before after t r x newer hs) begins
      (subst (λ x. IsEnteredBelow from pasts phase left values scrolled at w o before after t r old x hs) ends entered))

-- an element that has no render node, and one that has one
pub draws_none : (at : Handle → Option RenderObject) (scroll : ℕ) (e : Element) → Unless (vanishes (role_of e)) (IsDrawn at scroll e) → e.render ≡ None → vanishes (role_of e) ≡ true
draws_none at scroll e drawn none = by_test (vanishes (role_of e)) refl drawn
  where
    by_test : (b : Bool) → vanishes (role_of e) ≡ b → Unless b (IsDrawn at scroll e) → vanishes (role_of e) ≡ true
    by_test true is d = is
    by_test false is d = absurd (no_handle d.handle (sym none ∙ d.named))
      where
        no_handle : (k : Handle) → None ≡ Some k → ⊥
        no_handle k x = cc

pub draws_one : (b : Bool) (o : Option Handle) (k : Handle) → (b ≡ true → o ≡ None) → o ≡ Some k → b ≡ false
draws_one false o k unseen some = refl
draws_one true o k unseen some = absurd (no_handle (sym (unseen refl) ∙ some))
  where
    no_handle : None ≡ Some k → ⊥
    no_handle x = cc

pub drawn_there : (b : Bool) (P : Type 0) → b ≡ false → Unless b P → P
drawn_there true P e u = cc
drawn_there false P e u = u

-- the plans after a widget that has a render node, but for its element's entry
pub planned_shown : (phase : Phase) (at : WalkPlace) (h k : Handle) (e : Element) (hs : List Handle) (w : PlainWidget) (start inner half last : BuildWalk) (before : List Handle) (itself : WaitingList) (entry : PlanEntry Redraw)
    → last ≡ record half { renders = last.renders; tops = last.tops } → last.renders.items ≡ half.renders.items ++ entry ∷ [] → entry ≡ render_entry at k e half.tops.items
    → last.tops.items ≡ before ++ k ∷ [] → before ≡ start.tops.items → (plans_of inner).lists ≡ (plans_of start).lists → (plans_of inner).waiting ≡ (plans_of start).waiting → e.widget ≡ w
    → (waits phase (build_role_of (look_of w)) ≡ true → ((plans_of half).lists ≡ (plans_of inner).lists ++ h ∷ []) × ((plans_of half).waiting ≡ (plans_of inner).waiting ++ itself ∷ []))
    → planned_under phase at h k e itself hs (plans_of start) (half_of phase w inner half) ≡ with_element (element_entry at h e hs) (plans_of last)
planned_shown phase at h k e hs w start inner half last before itself entry others drawn_is is tops_are begins lists_are waiting_is same put_off = λ i. record {
  elements = (sym others i).elements.items ++ element_entry at h e hs ∷ [];
  renders = (ap (λ x. half.renders.items ++ x ∷ []) (sym is) ∙ sym drawn_is) i;
  tops = (ap (λ l. l ++ k ∷ []) (sym begins) ∙ sym tops_are) i;
  lists = (ap (λ v. cond (waits phase (build_role_of (look_of v))) ((plans_of start).lists ++ h ∷ []) (half_of phase w inner half).lists) same ∙ by_test (waits phase (build_role_of (look_of w))) refl
      ∙ ap (λ (x : BuildWalk). map (λ (s : WaitingSpot). s.at) x.spots.items) (sym others)) i;
  waiting = (ap (λ v. cond (waits phase (build_role_of (look_of v))) ((plans_of start).waiting ++ itself ∷ []) (half_of phase w inner half).waiting) same ∙ by_waiting (waits phase (build_role_of (look_of w))) refl
      ∙ ap (λ (x : BuildWalk). map waiting_of x.spots.items) (sym others)) i;
}
  where
    by_test : (b : Bool) → waits phase (build_role_of (look_of w)) ≡ b
        → cond b ((plans_of start).lists ++ h ∷ []) (cond b (plans_of inner).lists (plans_of half).lists) ≡ (plans_of half).lists
    by_test true e = ap (λ l. l ++ h ∷ []) (sym lists_are) ∙ sym (put_off e).0
    by_test false e = refl

    by_waiting : (b : Bool) → waits phase (build_role_of (look_of w)) ≡ b
        → cond b ((plans_of start).waiting ++ itself ∷ []) (cond b (plans_of inner).waiting (plans_of half).waiting) ≡ (plans_of half).waiting
    by_waiting true e = ap (λ l. l ++ itself ∷ []) (sym waiting_is) ∙ sym (put_off e).1
    by_waiting false e = refl

-- ---- a lazy list that is put off

pub waiting_progress : (f : LastFrame) (g : Registry) (t : Tree Element) (before after : BuildWalk) (spot : WaitingSpot) (o : Opening) (kept : Option Handle) → after ≡ record before { spots = after.spots }
    → after.spots.items ≡ before.spots.items ++ spot ∷ [] → spot.kept ≡ kept → o.partner ≡ plain_at_any f.scrolled f.elements kept
    → record { entered = before.entered; met = λ v. is_met g v; next = made_count t + 1; waiting = (progress_of f before g t).waiting ++ o.partner ∷ [] } ≡ progress_of f after g t
waiting_progress f g t before after spot o kept others spots is partner = λ i. record {
  entered = (sym others i).entered;
  met = λ v. is_met g v;
  next = made_count t + 1;
  waiting = (ap (λ p. (progress_of f before g t).waiting ++ p ∷ []) (partner ∙ ap (plain_at_any f.scrolled f.elements) (sym is))
      ∙ sym (map-append (λ (s : WaitingSpot). plain_at_any f.scrolled f.elements s.kept) before.spots.items (spot ∷ []))
      ∙ ap (map (λ (s : WaitingSpot). plain_at_any f.scrolled f.elements s.kept)) (sym spots)) i;
}

pub waiting_half : (phase : Phase) (w : PlainWidget) (before after : BuildWalk) → waits phase (build_role_of (look_of w)) ≡ true → after ≡ record before { spots = after.spots } → plans_of before ≡ half_of phase w before after
waiting_half phase w before after e others = λ i. record {
  elements = (sym others i).elements.items;
  renders = (sym others i).renders.items;
  tops = (sym others i).tops.items;
  lists = ap (λ b. cond b (plans_of before).lists (plans_of after).lists) (sym e) i;
  waiting = ap (λ b. cond b (plans_of before).waiting (plans_of after).waiting) (sym e) i;
}

-- ---- what is known of an answer, and of a fault

pub ok_both : {A E : Type 0} (P : A → Type 0) (Q : Type 0) (R : A → Type 0) (r : Result A E) → ((x : A) → P x → Q → R x) → IfOk r P → OnOk r Q → IfOk r R
ok_both P Q R (Ok x) f p q = f x p q
ok_both P Q R (Err e) f p q = tt

pub ok_more : {A E : Type 0} (P Q : Type 0) (r : Result A E) → (P → Q) → OnOk r P → OnOk r Q
ok_more P Q (Ok x) f p = f p
ok_more P Q (Err e) f p = tt

pub some_both : {A : Type 0} (P Q R : A → Type 0) (o : Option A) → ((x : A) → P x → Q x → R x) → IfSome o P → IfSome o Q → IfSome o R
some_both P Q R None f p q = tt
some_both P Q R (Some x) f p q = f x p q

pub fault_both : {A : Type 0} (P Q R : Fault → Type 0) (r : Result A FrameFault) → ((x : Fault) → P x → Q x → R x)
    → IfErr r (λ e. IfSome (fault_of e) P) → IfErr r (λ e. IfSome (fault_of e) Q) → IfErr r (λ e. IfSome (fault_of e) R)
fault_both P Q R (Ok x) f p q = tt
fault_both P Q R (Err e) f p q = some_both P Q R (fault_of e) f p q

-- ---- sums

pub none_built : (b n : ℕ) → n ≡ 0 → b ≡ b + n
none_built b n e = omega (arith, e)

pub two_built : (b mid end here below all : ℕ) → mid ≡ b + here → end ≡ mid + below → all ≡ here + below → end ≡ b + all
two_built b mid end here below all x y z = omega (arith, x, y, z)

-- ---- put off, as the program says it

module _ (from : Basis) (pasts : Pasts) (phase : Phase) (left : ℕ) (values : List Value) (scrolled : ℕ → ℕ) (at : WalkPlace) (w : PlainWidget) (o : Opening) (before : Progress) (t : Tree Element) (r : Tree RenderObject) where
  pub waits_as : (after also : Progress) (p q : WalkPlans) (hs ks : List Handle) → after ≡ also → p ≡ q → hs ≡ ks
      → IsEnteredBelow from pasts phase left values scrolled at w o before after t r p p hs → IsEnteredBelow from pasts phase left values scrolled at w o before also t r p q ks
  waits_as after also p q hs ks same plans handles entered =
      subst (λ s. IsEnteredBelow from pasts phase left values scrolled at w o before s t r p q ks) same
      (subst (λ x. IsEnteredBelow from pasts phase left values scrolled at w o before after t r p x ks) plans
      (subst (λ l. IsEnteredBelow from pasts phase left values scrolled at w o before after t r p p l) handles entered))

-- ---- one after another, as the program says it

module _ (from : Basis) (pasts : Pasts) (phase : Phase) (left : ℕ) (scrolled : ℕ → ℕ) (at : WalkPlace) (before after : Progress) (t : Tree Element) (r : Tree RenderObject) (old new : WalkPlans) where
  pub all_as : (values also : List Value) (xs ys : List ArrivalOf) (hs ks : List Handle) → values ≡ also → xs ≡ ys → hs ≡ ks
      → AreEntered from pasts phase left values scrolled at xs before after t r old new hs → AreEntered from pasts phase left also scrolled at ys before after t r old new ks
  all_as values also xs ys hs ks same arriving handles entered =
      subst (λ vs. AreEntered from pasts phase left vs scrolled at ys before after t r old new ks) same
      (subst (λ zs. AreEntered from pasts phase left values scrolled at zs before after t r old new ks) arriving
      (subst (λ l. AreEntered from pasts phase left values scrolled at xs before after t r old new l) handles entered))

-- ---- where a walk has put off a list, or planned an element

pub ready_same : (from : WalkSource) (v w : BuildWalk) (t : Tree Element) (r : Tree RenderObject) (g : Registry) → w.entered ≡ v.entered → IsReadyToWalk (declared_by from) (program_of from).nodes v.entered t r g
    → IsReadyToWalk (declared_by from) (program_of from).nodes w.entered t r g
ready_same from v w t r g same ready = subst (λ n. IsReadyToWalk (declared_by from) (program_of from).nodes n t r g) (sym same) ready

pub spot_pushed : (d : Declarations) (t : Tree Element) (old new : List WaitingSpot) (spot : WaitingSpot) → new ≡ old ++ spot ∷ [] → IsTypedSpot d t spot → AreTypedSpots d t old → AreTypedSpots d t new
spot_pushed d t old new spot is typed all = all_pushed (IsTypedSpot d t) old spot new is all typed

-- the old element of one more list
pub old_pushed : (f : LastFrame) (old new : List WaitingSpot) (spot : WaitingSpot) (kept : Option Handle) (was : List Value) → new ≡ old ++ spot ∷ [] → spot.kept ≡ kept → spot.was.items ≡ was
    → IfSome kept (IsOld f was) → AreOldSpots f old → AreOldSpots f new
old_pushed f old new spot kept was is same values known all =
    all_pushed (λ (s : WaitingSpot). IfSome s.kept (IsOld f s.was.items)) old spot new is all
    (subst (λ o. IfSome o (IsOld f spot.was.items)) (sym same) (subst (λ vs. IfSome kept (IsOld f vs)) (sym values) known))

-- a list that waits gives no inherited name a value
waits_values : (phase : Phase) (r : BuildRole) (values : List Value) → waits phase r ≡ true → values_by r values ≡ values
waits_values first (composes place props) values e = cc
waits_values first (provides name value) values e = cc
waits_values first (keeps_child kept) values e = cc
waits_values first (lists extent) values e = refl
waits_values first holds values e = cc
waits_values second r values e = cc

-- what it waits with is as the definition says it
pub list_same : (phase : Phase) (w : PlainWidget) (e was : Element) (outer left : ℕ) (values : List Value) (t : Tree Element) (h : Handle) → waits phase (build_role_of (look_of w)) ≡ true → e.widget ≡ w
    → element_at t h ≡ Some was → was.number ≡ e.number → outer ≡ suc left → list_for (number_or (number_at t h)) left values w ≡ list_at outer values e
list_same phase w e was outer left values t h waiting same stored number is =
    let less : left ≡ outer - 1 = omega (arith, is) in
    let below : values ≡ values_below w values = sym (waits_values phase (build_role_of (look_of w)) values waiting) in
    λ i. record {
      number = (ap (λ (o : Option Element). number_or (option_map (λ (x : Element). x.number) o)) stored ∙ number) i;
      extent = extent_in (build_role_of (look_of (sym same i)));
      widgets = child_widgets (sym same i);
      left = less i;
      values = (below ∙ ap (λ v. values_below v values) (sym same)) i;
    }
