-- A widget is entered once it was opened and what is below it was entered.
use Rattle.std.proofs.Common.{◌≡◌, ℕ, zero, suc, ◌-◌, Bool, true, false, cond, List, [], ◌∷◌, ◌++◌, Some, map, refl, sym, ap, ◌∙◌, subst, arith}
use Rattle.std.specs.Option.{option_to_list}
use Rattle.fx_expr.specs.declared.values.Value.{Value}
use Rattle.fx_handles.specs.declared.Handle.{Handle}
use Rattle.node_tree.specs.Forest.{Forest}
use Rattle.node_tree.specs.Forest.Forest.{none, tree}
use Rattle.node_tree.specs.Tree.{Tree}
use Rattle.widget_model.specs.Look.{Look, sliver_lazy}
use Rattle.widget_model.specs.Plain.{PlainWidget, look_of}
use Rattle.widget_model.specs.Plain.{children_of as child_widgets}
use Rattle.reconcile.specs.Matching.{matching}
use Rattle.plain_tree.specs.PlainNode.{PlainNode, node, PlainNodes, widget_of, nodes_of as listed}
use Rattle.plain_tree.specs.RenderRole.{render_role_of, vanishes}
use Rattle.build_form.specs.Step.{Fault, tree_too_large, Progress, Step, stops, gives, and_then, each}
use Rattle.build_form.specs.BuildRole.{BuildRole, composes, provides, keeps, lists, holds, build_role_of, is_lazy}
use Rattle.build_form.specs.Partner.{Arrival, arrivals, nodes_had, widgets_had}
use Rattle.build_form.specs.Entering.{Basis, Phase, first, second, waits, put_off, values_below, Opening, entered_below, made}
use Rattle.build_form.specs.WellBuilt.{AreBelow}
use Rattle.build_form.proofs.Entered.{widgets_from}
use Rattle.element_tree.specs.Element.{Element, element_at}
use Rattle.element_tree.specs.Nodes.{nodes_of}
use Rattle.render_tree.specs.Object.{RenderObject}
use Rattle.render_tree.specs.Tree.{object_at}
use Rattle.build_walk.specs.Keeping.{reopened, reenter}
use Rattle.build_walk.specs.Past.{Pasts}
use Rattle.build_walk.specs.Telling.{StoresBelow, StoreOutputs}
use Rattle.build_walk.specs.Renewing.{GoesOn, role_of, IsDrawn}
use Rattle.build_walk.specs.Serving.{WaitingList, list_or, waiting_lists, all_waiting_lists}
use Rattle.build_walk.specs.Walked.{WalkPlans, WalkPlace, waiting_in, Walked, through, under, extent_in, list_at, planned_through, planned_under, without_tops}
use Rattle.build_walk.specs.Entered.{IsEntered, AreEntered, IsEnteredBelow, StoresGiven, IsElementFor}
use Rattle.build_walk.proofs.Stepping.{Ends, ends_then, each_ends, AllOf}
use Rattle.build_walk.proofs.Entering.{none_waiting}
use Rattle.build_walk.proofs.Walking.{nothing_walked, through_walked, under_walked}

-- ---- the steps of the walk

module _ (from : Basis) (pasts : Pasts) (phase : Phase) (left k : ℕ) (values : List Value) (a : Arrival) (s : Progress) where
  pub no_deeper : left ≡ 0 → reenter from pasts phase left values a s ≡ stops tree_too_large
  unfolding reenter
  no_deeper e = rw e refl

  pub not_opened : (f : Fault) → left ≡ suc k → reopened from pasts values a s ≡ stops f → reenter from pasts phase left values a s ≡ stops f
  unfolding reenter
  not_opened f e stopped =
      ap (λ l. reenter from pasts phase l values a s) e
      ∙ ap (λ r. and_then r (λ o s1. and_then (entered_below (reenter from pasts phase k) phase values a.widget o s1) (λ ns s2. gives (made a o ns) s2))) stopped

  module _ (o : Opening) (t : Progress) (is : left ≡ suc k) (was : reopened from pasts values a s ≡ gives o t) where
    pub not_below : (f : Fault) → entered_below (reenter from pasts phase k) phase values a.widget o t ≡ stops f → reenter from pasts phase left values a s ≡ stops f
    unfolding reenter
    not_below f stopped =
        ap (λ l. reenter from pasts phase l values a s) is
        ∙ ap (λ r. and_then r (λ o1 s1. and_then (entered_below (reenter from pasts phase k) phase values a.widget o1 s1) (λ ns s2. gives (made a o1 ns) s2))) was
        ∙ ap (λ r. and_then r (λ ns s2. gives (made a o ns) s2)) stopped

    pub all_entered : (ns : List PlainNode) (u : Progress) → entered_below (reenter from pasts phase k) phase values a.widget o t ≡ gives ns u → reenter from pasts phase left values a s ≡ gives (made a o ns) u
    unfolding reenter
    all_entered ns u done =
        ap (λ l. reenter from pasts phase l values a s) is
        ∙ ap (λ r. and_then r (λ o1 s1. and_then (entered_below (reenter from pasts phase k) phase values a.widget o1 s1) (λ ms s2. gives (made a o1 ms) s2))) was
        ∙ ap (λ r. and_then r (λ ms s2. gives (made a o ms) s2)) done

-- ---- the widgets of what was entered

anything : {A : Type 0} (r : Step A) → Ends (λ (x : A) (t : Progress). Unit {0}) r
anything (stops f) = tt
anything (gives x t) = tt

widget_entered : (from : Basis) (pasts : Pasts) (phase : Phase) (left : ℕ) (values : List Value) (a : Arrival) (s : Progress)
    → Ends (λ (n : PlainNode) (t : Progress). Unit {0} × (widget_of n ≡ a.widget)) (reenter from pasts phase left values a s)
unfolding reenter
widget_entered from pasts phase zero values a s = tt
widget_entered from pasts phase (suc left) values a s =
    ends_then (λ (o : Opening) (t : Progress). Unit {0}) (λ (n : PlainNode) (t : Progress). Unit {0} × (widget_of n ≡ a.widget)) (reopened from pasts values a s) _ (anything (reopened from pasts values a s))
    (λ o s1 h. ends_then (λ (ns : List PlainNode) (t : Progress). Unit {0}) (λ (n : PlainNode) (t : Progress). Unit {0} × (widget_of n ≡ a.widget))
    (entered_below (reenter from pasts phase left) phase values a.widget o s1) _ (anything (entered_below (reenter from pasts phase left) phase values a.widget o s1)) (λ ns s2 h2. (tt, refl)))

all_units : (cs : List Arrival) → AllOf (λ (a : Arrival). Unit {0}) cs
all_units [] = tt
all_units (a ∷ cs) = (tt, all_units cs)

pub widgets_entered : (from : Basis) (pasts : Pasts) (phase : Phase) (left : ℕ) (values : List Value) (cs : List Arrival) (s t : Progress) (ns : List PlainNode)
    → each (reenter from pasts phase left values) cs s ≡ gives ns t → map widget_of ns ≡ map (λ (a : Arrival). a.widget) cs
widgets_entered from pasts phase left values cs s t ns e =
    let P : List PlainNode → Progress → Type 0 = λ ms u. Unit {0} × (map widget_of ms ≡ map (λ (a : Arrival). a.widget) cs) in
    let all = each_ends (λ (a : Arrival). Unit {0}) (λ (u : Progress). Unit {0}) (λ (a : Arrival) (n : PlainNode). widget_of n ≡ a.widget)
    (λ (bs : List Arrival) (ms : List PlainNode). map widget_of ms ≡ map (λ (a : Arrival). a.widget) bs) (reenter from pasts phase left values) refl
    (λ a n bs ms x xs. λ i. x i ∷ xs i) (λ a u k q. widget_entered from pasts phase left values a u) cs s (all_units cs) tt in
    (subst (Ends P) e all).1

-- ---- below a widget

put_off_by : (from : Basis) (pasts : Pasts) (phase : Phase) (left : ℕ) (values : List Value) (w : PlainWidget) (o : Opening) (s : Progress) (b : Bool) → b ≡ true
    → cond b (put_off o.partner s) (each (reenter from pasts phase left (values_below w values)) (arrivals o.partner o.given) s) ≡ put_off o.partner s
put_off_by from pasts phase left values w o s b e = ap (λ c. cond c (put_off o.partner s) (each (reenter from pasts phase left (values_below w values)) (arrivals o.partner o.given) s)) e

module _ (from : Basis) (pasts : Pasts) (phase : Phase) (left : ℕ) (values : List Value) (scrolled : ℕ → ℕ) (at : WalkPlace) (w : PlainWidget) (o : Opening) (before : Progress) (t : Tree Element) (r : Tree RenderObject) where
  pub waits_below : (plans : WalkPlans) → waits phase (build_role_of (look_of w)) ≡ true
      → IsEnteredBelow from pasts phase left values scrolled at w o before (record { entered = before.entered; met = before.met; next = before.next; waiting = before.waiting ++ o.partner ∷ [] }) t r plans plans []
  waits_below plans e = record {
    kids = none;
    is = put_off_by from pasts phase left values w o before (waits phase (build_role_of (look_of w))) e;
    handles = refl;
    walked = nothing_walked phase t r scrolled at plans;
    waiting = none_waiting phase plans.waiting;
    stored = tt;
    widgets = subst (λ b. AreBelow b o.given []) (sym e) refl;
  }

  pub entered_in_turn : (after : Progress) (old new : WalkPlans) (hs : List Handle) → waits phase (build_role_of (look_of w)) ≡ false
      → AreEntered from pasts phase left (values_below w values) scrolled at (arrivals o.partner o.given) before after t r old new hs
      → IsEnteredBelow from pasts phase left values scrolled at w o before after t r old new hs
  entered_in_turn after old new hs e all = record {
    kids = all.kids;
    is = ap (λ b. cond b (put_off o.partner before) (each (reenter from pasts phase left (values_below w values)) (arrivals o.partner o.given) before)) e ∙ all.is;
    handles = all.handles;
    walked = all.walked;
    waiting = all.waiting;
    stored = all.stored;
    widgets = subst (λ b. AreBelow b o.given (nodes_of scrolled all.kids)) (sym e)
        (widgets_entered from pasts phase left (values_below w values) (arrivals o.partner o.given) before after (nodes_of scrolled all.kids) all.is
        ∙ widgets_from (nodes_had o.partner) 0 o.given (matching (widgets_had o.partner) o.given));
  }

-- ---- a widget

-- what a component stores is below it
stores_below : (phase : Phase) (b : BuildRole) (e : Element) (given : List PlainWidget) (ns : List PlainNode) → AreBelow (waits phase b) given ns → StoresGiven b e given → StoresBelow b e ns
stores_below phase (composes place props) e given ns below stores = λ clean. stores clean ∙ sym (here phase below)
  where
    here : (p : Phase) → AreBelow (waits p (composes place props)) given ns → map widget_of ns ≡ given
    here first h = h
    here second h = h
stores_below phase (provides name value) e given ns below stores = tt
stores_below phase (keeps kept) e given ns below stores = tt
stores_below phase (lists extent) e given ns below stores = tt
stores_below phase holds e given ns below stores = tt

module _ (from : Basis) (pasts : Pasts) (phase : Phase) (left k : ℕ) (values : List Value) (scrolled : ℕ → ℕ) (at inner : WalkPlace) (a : Arrival) (before mid after : Progress)
    (t : Tree Element) (r : Tree RenderObject) (old from_old half new : WalkPlans) (h : Handle) (e : Element) (o : Opening) (hs : List Handle) where
  pub is_entered : left ≡ suc k → reopened from pasts values a before ≡ gives o mid → IsElementFor scrolled a o e
      → (below : IsEnteredBelow from pasts phase k values scrolled inner a.widget o mid after t r from_old half hs)
      → Walked phase t r scrolled at old new (tree h e below.kids none)
      → new.waiting ≡ old.waiting ++ waiting_in phase (waiting_lists left values (node e.number e.widget e.fields (scrolled e.number) e.index (listed (nodes_of scrolled below.kids))))
      → IsEntered from pasts phase left values scrolled at a before after t r old new h
  is_entered is was for below walked waiting =
      let ns = nodes_of scrolled below.kids in
      let widgets = subst (λ (w : PlainWidget). AreBelow (waits phase (build_role_of (look_of w))) o.given ns) (sym for.widget) below.widgets in
      record {
        value = e;
        kids = below.kids;
        is = all_entered from pasts phase left k values a before o mid is was ns after below.is
            ∙ (λ i. gives (node (sym for.number i) (sym for.widget i) (sym for.fields i) (sym for.scroll i) (sym for.place i) (listed ns)) after);
        walked = walked;
        waiting = waiting;
        stored = (stores_below phase (build_role_of (look_of e.widget)) e o.given ns widgets for.output, below.stored, tt);
      }

-- ---- with its entries

-- the lists that wait below a widget, and itself where it waits
module _ (k left : ℕ) (is : left ≡ suc k) (values : List Value) (w v : PlainWidget) (same : v ≡ w) (children : PlainNodes) where
  lists_below : all_waiting_lists k (values_below w values) children ≡ all_waiting_lists (left - 1) (values_below v values) children
  lists_below =
      let less : k ≡ left - 1 = omega (arith, is) in
      λ i. all_waiting_lists (less i) (values_below (sym same i) values) children

no_list_itself : (r : BuildRole) (l : ℕ → WaitingList) (others : List WaitingList) → is_lazy r ≡ false → list_or r l others ≡ others
no_list_itself (composes place props) l others e = refl
no_list_itself (provides name value) l others e = refl
no_list_itself (keeps kept) l others e = refl
no_list_itself (lists extent) l others e = cc
no_list_itself holds l others e = refl

list_itself : (phase : Phase) (r : BuildRole) (l : ℕ → WaitingList) (old half others : List WaitingList) → half ≡ old ++ waiting_in phase others
    → cond (waits phase r) (old ++ l (extent_in r) ∷ []) half ≡ old ++ waiting_in phase (list_or r l others)
list_itself first (composes place props) l old half others e = e
list_itself first (provides name value) l old half others e = e
list_itself first (keeps kept) l old half others e = e
list_itself first (lists extent) l old half others e = refl
list_itself first holds l old half others e = e
list_itself second r l old half others e = e

-- an element without a render node is no lazy list
no_list : (l : Look) → vanishes (render_role_of l) ≡ true → is_lazy (build_role_of l) ≡ false
no_list (sliver_lazy extent) e = cc
no_list l e = cc

module _ (from : Basis) (pasts : Pasts) (phase : Phase) (left k : ℕ) (values : List Value) (scrolled : ℕ → ℕ) (at : WalkPlace) (a : Arrival) (before mid after : Progress)
    (t : Tree Element) (r : Tree RenderObject) (old half : WalkPlans) (h : Handle) (e : Element) (o : Opening) (hs : List Handle) (is : left ≡ suc k) (was : reopened from pasts values a before ≡ gives o mid)
    (for : IsElementFor scrolled a o e) (goes : GoesOn (element_at t) h e) where
  abbrev itself : Element → ℕ → WaitingList
  itself v extent = record { number = v.number; extent = extent; widgets = child_widgets v.widget; left = left - 1; values = values_below v.widget values }

  pub through_entered : vanishes (role_of e) ≡ true → IsEnteredBelow from pasts phase k values scrolled (through at h e) a.widget o mid after t r old half hs
      → IsEntered from pasts phase left values scrolled at a before after t r old (planned_through at h e hs half) h
  through_entered vanishing below =
      is_entered from pasts phase left k values scrolled at (through at h e) a before mid after t r old old half (planned_through at h e hs half) h e o hs is was for below
      (subst (λ l. Walked phase t r scrolled at old (planned_through at h e l half) (tree h e below.kids none)) (sym below.handles)
      (through_walked phase t r scrolled at h e below.kids goes vanishing (no_list (look_of e.widget) vanishing) old half below.walked))
      (below.waiting ∙ ap (λ l. old.waiting ++ waiting_in phase l)
      (lists_below k left is values a.widget e.widget for.widget (listed (nodes_of scrolled below.kids))
      ∙ sym (no_list_itself (build_role_of (look_of e.widget)) (itself e) _ (no_list (look_of e.widget) vanishing))))

  pub under_entered : (n : Handle) → vanishes (role_of e) ≡ false → IsDrawn (object_at r) (scrolled e.number) e → e.render ≡ Some n
      → IsEnteredBelow from pasts phase k values scrolled (under h n e) a.widget o mid after t r (without_tops old) half hs
      → IsEntered from pasts phase left values scrolled at a before after t r old (planned_under phase at h n e (list_at left values e) hs old half) h
  under_entered n own drawn named below =
      is_entered from pasts phase left k values scrolled at (under h n e) a before mid after t r old (without_tops old) half (planned_under phase at h n e (list_at left values e) hs old half) h e o hs is was for below
      (subst (λ l. Walked phase t r scrolled at old (planned_under phase at h n e (list_at left values e) l old half) (tree h e below.kids none)) (sym below.handles)
      (under_walked phase t r scrolled at h e below.kids goes n own drawn named (list_at left values e) old half below.walked))
      (list_itself phase (build_role_of (look_of e.widget)) (itself e) old.waiting half.waiting _
      (below.waiting ∙ ap (λ l. old.waiting ++ waiting_in phase l) (lists_below k left is values a.widget e.widget for.widget (listed (nodes_of scrolled below.kids)))))
