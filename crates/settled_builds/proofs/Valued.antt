-- A build enters a reader of a name below an Inherit of that name with the value that this one gives.
use Rattle.std.proofs.Common.{◌≡◌, ℕ, zero, suc, ◌≤◌, ◌==◌, Bool, true, false, ◌||◌, cond, Option, Some, None, IfSome, List, [], ◌∷◌, ◌++◌, map, refl, sym, ap, ◌∙◌, subst, ◌⊎◌, inl, inr, arith}
use Rattle.std.specs.List.{find}
use Rattle.std.proofs.lemmas.Bool.{eqb-false}
use Rattle.fx_expr.specs.declared.values.Value.{Value}
use Rattle.fx_expr.specs.Scope.{value_at}
use Rattle.widget_keys.specs.declared.keys.Key.{Key}
use Rattle.widget_keys.specs.declared.keys.Key.TheVariants as key
use Rattle.widget_model.specs.Look.{Look, inherit, sliver_lazy}
use Rattle.widget_model.specs.Plain.{PlainWidget, look_of, key_of}
use Rattle.widget_model.specs.Update.{same_type}
use Rattle.widget_model.specs.UpdateLaws.{type_eq-Decides}
use Rattle.widget_model.specs.WidgetType.{type_of}
use Rattle.reconcile.specs.Matching.{matching}
use Rattle.plain_tree.specs.At.{is_there}
use Rattle.plain_tree.specs.PlainNode.{PlainNode, node, PlainNodes, no_nodes, more_nodes, list_of, widget_of, children_of}
use Rattle.build_form.specs.BuildRole.{BuildRole, composes, provides, keeps, lists, holds, build_role_of, is_lazy}
use Rattle.build_form.specs.Partner.{Arrival, node_at_any, arrivals_from, arrivals, widgets_had, of_type, candidate, partner_of}
use Rattle.build_form.specs.Entering.{Basis, first, values_by, values_below, waits, put_off, Opening, opened, entered_below, enter}
use Rattle.build_form.specs.Laws.{NumbersAre, AllNumbersAre}
use Rattle.build_form.specs.Step.{Progress, Step, stops, gives, each}
use Rattle.build_walk.specs.Past.{is_marked}
use Rattle.build_walk.proofs.Stepping.{Ends, ends_then, AllOf}
use Rattle.build_walk.proofs.Opened.{IsOpened, opened_ends}
use Rattle.work_sets.specs.Due.{names_read}
use Rattle.work_sets.specs.Entered.{Entered, is_let_in, after, seen_by_each, seen_from}
use Rattle.settled_builds.specs.Regiven.{is_read, is_given, readers_of, readers_in}
use Rattle.settled_builds.specs.Settled.{IsSettled, AreSettled}
use Rattle.settled_builds.specs.Taken.{AskedIf}
use Rattle.settled_builds.proofs.Once.{Other, IsAlone, AreAlone}
use Rattle.settled_builds.proofs.Others.{AreSo, Calm, waiting_more, good_list, good_from, good_arrivals, each_calm, enter_calm, so_each, seen_so}
use Rattle.settled_builds.proofs.Entries.{SomeNode, At, none_other, as_it_is}
use Rattle.settled_builds.proofs.Regived.{marked_either, IsReader, reader_there}
use Rattle.settled_builds.proofs.Staying.{no_list}
use Rattle.settled_builds.proofs.Values.{set_there}

-- ---- what a type tells

looks_give : (name : ℕ) (a b : Look) → type_of a ≡ type_of b → is_given name (build_role_of a) ≡ is_given name (build_role_of b)
looks_give name (inherit a0 a1) (inherit b0 b1) same = let is : a0 ≡ b0 = cc in ap (λ (j : ℕ). j == name) is
looks_give name (inherit a0 a1) b same = cc
looks_give name a (inherit b0 b1) same = cc
looks_give name a b same = refl

looks_lazy : (a b : Look) → type_of a ≡ type_of b → is_lazy (build_role_of a) ≡ is_lazy (build_role_of b)
looks_lazy (sliver_lazy a0) (sliver_lazy b0) same = refl
looks_lazy (sliver_lazy a0) b same = cc
looks_lazy a (sliver_lazy b0) same = cc
looks_lazy a b same = refl

type_same : (v w : PlainWidget) → same_type v w ≡ true → type_of (look_of v) ≡ type_of (look_of w)
type_same v w e = (type_eq-Decides (type_of (look_of v)) (type_of (look_of w))).0 e

pub given_same : (name : ℕ) (v w : PlainWidget) → same_type v w ≡ true → is_given name (build_role_of (look_of v)) ≡ is_given name (build_role_of (look_of w))
given_same name v w e = looks_give name (look_of v) (look_of w) (type_same v w e)

lazy_same : (v w : PlainWidget) → same_type v w ≡ true → is_lazy (build_role_of (look_of v)) ≡ is_lazy (build_role_of (look_of w))
lazy_same v w e = looks_lazy (look_of v) (look_of w) (type_same v w e)

waits_lazy : (p : BuildRole) → is_lazy p ≡ false → waits first p ≡ false
waits_lazy (composes i ps) e = refl
waits_lazy (provides k v) e = refl
waits_lazy (keeps kept) e = refl
waits_lazy (lists extent) e = cc
waits_lazy holds e = refl

-- ---- entries

module _ (k name : ℕ) (value : Value) where
  -- of a number it has this value
  abbrev pub IsValued : Entered → Type 0
  IsValued e = e.number ≡ k → value_at e.values name ≡ value

  abbrev pub AreValued : List Entered → Type 0
  AreValued es = AllOf IsValued es

  pub valued_append : (es fs : List Entered) → AreValued es → AreValued fs → AreValued (es ++ fs)
  valued_append [] fs h g = g
  valued_append (e ∷ es) fs h g = (h.0, valued_append es fs h.1 g)

  pub valued_others : (es : List Entered) → AreSo (Other k) es → AreValued es
  valued_others [] h = tt
  valued_others (e ∷ es) h = (λ same. absurd (h.0 same), valued_others es h.1)

  pub valued_after : {A : Type 0} (Q : A → Progress → Type 0) (r : Step A) (later : A → Progress → List Entered) → Ends Q r → ((x : A) (t : Progress) → Q x t → AreValued (later x t)) → AreValued (after r later)
  valued_after Q (stops f) later h g = tt
  valued_after Q (gives x t) later h g = g x t h

  pub valued_when : (b : Bool) (es : List Entered) → AreValued es → AreValued (cond b es [])
  valued_when true es h = h
  valued_when false es h = tt

  pub valued_unless : (b : Bool) (es : List Entered) → AreValued es → AreValued (cond b [] es)
  valued_unless true es h = tt
  valued_unless false es h = h

  -- ---- below the Inherit

  -- no node with that number stands below another Inherit of the name
  abbrev mutual
    pub IsClear : PlainNode → Type 0
    IsClear (node number w fs s i ns) = AskedIf (is_given name (build_role_of (look_of w))) (AllNumbersAre (Other k) ns) (AreClear ns)

    pub AreClear : PlainNodes → Type 0
    AreClear no_nodes = Unit {0}
    AreClear (more_nodes n ns) = IsClear n × AreClear ns

  asked_both : (b : Bool) (X Y : Type 0) → X → Y → AskedIf b X Y
  asked_both true X Y x y = x
  asked_both false X Y x y = y

  mutual
    clear_other : (n : PlainNode) → NumbersAre (Other k) n → IsClear n
    clear_other (node number w fs s i ns) h = asked_both (is_given name (build_role_of (look_of w))) _ _ h.1 (all_clear_other ns h.1)

    all_clear_other : (ns : PlainNodes) → AllNumbersAre (Other k) ns → AreClear ns
    all_clear_other no_nodes h = tt
    all_clear_other (more_nodes n ns) h = (clear_other n h.0, all_clear_other ns h.1)

  -- a reader that stands alone
  or_false : (b : Bool) → (b || false) ≡ true → b ≡ false → ⊥
  or_false true m f = cc
  or_false false m f = cc

  not_one : (number : ℕ) (q : Bool) → (number == k) ≡ false → is_marked (cond q (number ∷ []) []) k ≡ true → ⊥
  not_one number true f m = or_false (number == k) m f
  not_one number false f m = cc

  other_readers : (number : ℕ) (q : Bool) (rs : List ℕ) → (number == k) ≡ false → (is_marked (cond q (number ∷ []) []) k ≡ true) ⊎ (is_marked rs k ≡ true) → is_marked rs k ≡ true
  other_readers number q rs f (inl m) = absurd (not_one number q f m)
  other_readers number q rs f (inr m) = m

  no_readers : is_marked [] k ≡ true → ⊥
  no_readers e = cc

  clear_here : (number : ℕ) (w : PlainWidget) (ns : PlainNodes) → (AreAlone k ns → is_marked (readers_in name ns) k ≡ true → AreClear ns) → (r g : Bool) → (here : Bool) → (number == k) ≡ here
      → AskedIf here (AllNumbersAre (Other k) ns) (AreAlone k ns) → is_marked (cond r (number ∷ []) [] ++ cond g [] (readers_in name ns)) k ≡ true → AskedIf g (AllNumbersAre (Other k) ns) (AreClear ns)
  clear_here number w ns step r g true is alone e = asked_both g _ _ alone (all_clear_other ns alone)
  clear_here number w ns step r true false is alone e = absurd (no_readers (other_readers number r [] is (marked_either k (cond r (number ∷ []) []) [] e)))
  clear_here number w ns step r false false is alone e = step alone (other_readers number r (readers_in name ns) is (marked_either k (cond r (number ∷ []) []) (readers_in name ns) e))

  others_unread : (n : PlainNode) → NumbersAre (Other k) n → is_marked (readers_of name n) k ≡ true → ⊥
  others_unread n h e = none_other k (λ w vs. Unit {0}) [] n h (some_reader (reader_there k name [] n e))
    where
      some_reader : SomeNode (At k (IsReader k name)) [] n → SomeNode (At k (λ w vs. Unit {0})) [] n
      some_reader x = as_it_is (At k (IsReader k name)) (At k (λ w vs. Unit {0})) (λ j w vs y. (y.0, tt)) (λ j v w vs was is y. (y.0, tt)) [] n x

  pub others_unread_in : (ns : PlainNodes) → AllNumbersAre (Other k) ns → is_marked (readers_in name ns) k ≡ true → ⊥
  others_unread_in no_nodes h e = no_readers e
  others_unread_in (more_nodes n ns) h e = elim (marked_either k (readers_of name n) (readers_in name ns) e) [
    | inl m ↦ others_unread n h.0 m
    | inr m ↦ others_unread_in ns h.1 m
  ]

  clear_two : (n : PlainNode) (ns : PlainNodes) → (IsAlone k n → is_marked (readers_of name n) k ≡ true → IsClear n) → (AreAlone k ns → is_marked (readers_in name ns) k ≡ true → AreClear ns) → (there : Bool)
      → AskedIf there (IsAlone k n × AllNumbersAre (Other k) ns) (NumbersAre (Other k) n × AreAlone k ns) → (is_marked (readers_of name n) k ≡ true) ⊎ (is_marked (readers_in name ns) k ≡ true) → AreClear (more_nodes n ns)
  clear_two n ns one rest true alone (inl m) = (one alone.0 m, all_clear_other ns alone.1)
  clear_two n ns one rest true alone (inr m) = absurd (others_unread_in ns alone.1 m)
  clear_two n ns one rest false alone (inl m) = absurd (others_unread n alone.0 m)
  clear_two n ns one rest false alone (inr m) = (clear_other n alone.0, rest alone.1 m)

  mutual
    reader_clear : (n : PlainNode) → IsAlone k n → is_marked (readers_of name n) k ≡ true → IsClear n
    reader_clear (node number w fs s i ns) alone e =
        clear_here number w ns (λ a m. readers_clear ns a m) (is_read name (names_read (look_of w))) (is_given name (build_role_of (look_of w))) (number == k) refl alone e

    pub readers_clear : (ns : PlainNodes) → AreAlone k ns → is_marked (readers_in name ns) k ≡ true → AreClear ns
    readers_clear no_nodes alone e = tt
    readers_clear (more_nodes n ns) alone e =
        clear_two n ns (λ a m. reader_clear n a m) (λ a m. readers_clear ns a m) (is_there k n) alone (marked_either k (readers_of name n) (readers_in name ns) e)

  -- ---- the walk below it

  -- it is settled, and clear
  abbrev pub IsFine : PlainNode → Type 0
  IsFine n = IsSettled n × IsClear n

  abbrev pub Fine : Option PlainNode → Type 0
  Fine o = IfSome o IsFine

  abbrev pub Arrives : Arrival → Type 0
  Arrives a = Fine a.beside

  pub fine_list : (ns : PlainNodes) → AreSettled ns → AreClear ns → AllOf IsFine (list_of ns)
  fine_list no_nodes h g = tt
  fine_list (more_nodes n ns) h g = ((h.0, g.0), fine_list ns h.1 g.1)

  fine_if : (b : Bool) (n : PlainNode) (o : Option PlainNode) → IsFine n → Fine o → Fine (cond b (Some n) o)
  fine_if true n o h g = h
  fine_if false n o h g = g

  fine_found : (test : PlainNode → Bool) (ns : List PlainNode) → AllOf IsFine ns → Fine (find test ns)
  fine_found test [] h = tt
  fine_found test (n ∷ ns) h = fine_if (test n) n (find test ns) h.0 (fine_found test ns h.1)

  fine_at : (ns : List PlainNode) (m : Option ℕ) → AllOf IsFine ns → Fine (node_at_any ns m)
  fine_at ns None h = tt
  fine_at ns (Some j) h = fine_found _ ns h

  pub fine_from : (ns : List PlainNode) (i : ℕ) (ws : List PlainWidget) (ms : List (Option ℕ)) → AllOf IsFine ns → AllOf Arrives (arrivals_from ns i ws ms)
  fine_from ns i [] ms h = tt
  fine_from ns i (w ∷ ws) [] h = (tt, fine_from ns (suc i) ws [] h)
  fine_from ns i (w ∷ ws) (m ∷ ms) h = (fine_at ns m h, fine_from ns (suc i) ws ms h)

  module _ (start : ℕ) (new : (n : ℕ) → start ≤ n → Other k n) (from : Basis) (holders : (v : Value) → IfSome (from.holder v) (NumbersAre (Other k))) where
    abbrev pub IsCalm : Progress → Type 0
    IsCalm s = Calm (Other k) start new from holders s

    abbrev Good : Option PlainNode → Type 0
    Good o = IfSome o (NumbersAre (Other k))

    -- what a widget goes on from: a node without that number, or a fine one of its type
    record OfType (w : PlainWidget) (o : Option PlainNode) : Type 0 where
      pub node : PlainNode
      pub is : o ≡ Some node
      pub type : same_type (widget_of node) w ≡ true
      pub fine : IsFine node

    abbrev PartnerIs : PlainWidget → Option PlainNode → Type 0
    PartnerIs w o = Good o ⊎ OfType w o

    good_type : (w : PlainWidget) (n : PlainNode) (b : Bool) → NumbersAre (Other k) n → Good (cond b (Some n) None)
    good_type w n true h = h
    good_type w n false h = tt

    good_of : (w : PlainWidget) (o : Option PlainNode) → Good o → Good (of_type w o)
    good_of w None h = tt
    good_of w (Some n) h = good_type w n (same_type (widget_of n) w) h

    fine_type : (w : PlainWidget) (n : PlainNode) (b : Bool) → same_type (widget_of n) w ≡ b → IsFine n → PartnerIs w (cond b (Some n) None)
    fine_type w n true is h = inr (record { node = n; is = refl; type = is; fine = h })
    fine_type w n false is h = inl tt

    fine_of : (w : PlainWidget) (o : Option PlainNode) → Fine o → PartnerIs w (of_type w o)
    fine_of w None h = inl tt
    fine_of w (Some n) h = fine_type w n (same_type (widget_of n) w) refl h

    by_key : (w : PlainWidget) (q : Key Value) (o : Option PlainNode) → Fine o → PartnerIs w (of_type w (candidate q from.holder o))
    by_key w key.None o h = fine_of w o h
    by_key w (key.Local v) o h = fine_of w o h
    by_key w (key.Global v) o h = inl (good_of w (from.holder v) (holders v))

    partner_so : (a : Arrival) → Arrives a → PartnerIs a.widget (partner_of from.holder a)
    partner_so a h = by_key a.widget (key_of a.widget) a.beside h

    later_new : (a b c : ℕ) → a ≤ b → b ≤ c → a ≤ c
    later_new a b c h g = omega arith

    opened_calm : (values : List Value) (a : Arrival) (s : Progress) (o : Opening) (t : Progress) → IsCalm s → IsOpened from values a s o t → IsCalm t
    opened_calm values a s o t calm is = (subst (AllOf Good) (sym is.waiting) calm.0, later_new start s.next t.next calm.1 is.grows)

    pub each_fine : (go : Arrival → Progress → Step PlainNode) → ((a : Arrival) (s : Progress) → Arrives a → IsCalm s → Ends (λ n t. IsCalm t) (go a s)) → (bs : List Arrival) (s : Progress) → AllOf Arrives bs → IsCalm s → Ends (λ ns t. IsCalm t) (each go bs s)
    each_fine go step [] s h calm = calm
    each_fine go step (a ∷ bs) s h calm =
        ends_then (λ n t. IsCalm t) (λ ns t. IsCalm t) (go a s) _ (step a s h.0 calm)
        (λ n t c. ends_then (λ ns u. IsCalm u) (λ ns u. IsCalm u) (each go bs t) _ (each_fine go step bs t h.1 c) (λ ns u d. d))

    -- a fine node's widget is no lazy list, and the children that a widget of its type goes on from are fine, or have not that number
    not_lazy : (w : PlainWidget) (n : PlainNode) → same_type (widget_of n) w ≡ true → IsSettled n → waits first (build_role_of (look_of w)) ≡ false
    not_lazy w (node number was fs s i ns) type h =
        waits_lazy (build_role_of (look_of w)) (sym (lazy_same was w type) ∙ no_list (build_role_of (look_of was)) was (map widget_of (list_of ns)) h.0.own)

    children_so : (w : PlainWidget) (n : PlainNode) → same_type (widget_of n) w ≡ true → IsFine n → (g : Bool) → is_given name (build_role_of (look_of w)) ≡ g → AskedIf g (AllOf (NumbersAre (Other k)) (children_of n)) (AllOf IsFine (children_of n))
    children_so w (node number was fs s i ns) type h g is = by_given g (given_same name was w type ∙ is) h.1
      where
        by_given : (q : Bool) → is_given name (build_role_of (look_of was)) ≡ q → AskedIf (is_given name (build_role_of (look_of was))) (AllNumbersAre (Other k) ns) (AreClear ns)
            → AskedIf q (AllOf (NumbersAre (Other k)) (list_of ns)) (AllOf IsFine (list_of ns))
        by_given true e c = good_list (Other k) ns (subst (λ b. AskedIf b (AllNumbersAre (Other k) ns) (AreClear ns)) e c)
        by_given false e c = fine_list ns h.0.1 (subst (λ b. AskedIf b (AllNumbersAre (Other k) ns) (AreClear ns)) e c)

    below_fine : (left : ℕ) (values : List Value) (w : PlainWidget) (o : Opening) (t : Progress) → ((values : List Value) (a : Arrival) (s : Progress) → Arrives a → IsCalm s → Ends (λ n u. IsCalm u) (enter from first left values a s))
        → PartnerIs w o.partner → IsCalm t → Ends (λ ns u. IsCalm u) (entered_below (enter from first left) first values w o t)
    below_fine left values w o t step (inl good) calm = wait (waits first (build_role_of (look_of w)))
      where
        more : (os : List (Option PlainNode)) → AllOf Good os → AllOf Good (os ++ o.partner ∷ [])
        more os h = waiting_more (Other k) start new from holders os o.partner h good

        wait : (b : Bool) → Ends (λ ns u. IsCalm u) (cond b (put_off o.partner t) (each (enter from first left (values_below w values)) (arrivals o.partner o.given) t))
        wait true = (more t.waiting calm.0, calm.1)
        wait false =
            each_calm (Other k) start new from holders (enter from first left (values_below w values)) (λ b u g c. enter_calm (Other k) start new from holders first left (values_below w values) b u g c) (arrivals o.partner o.given) t
            (good_arrivals (Other k) o.partner o.given good) calm
    below_fine left values w o t step (inr m) calm =
        subst (λ b. Ends (λ ns u. IsCalm u) (cond b (put_off o.partner t) (each (enter from first left (values_below w values)) (arrivals o.partner o.given) t))) (sym (not_lazy w m.node m.type m.fine.0))
        (subst (λ x. Ends (λ ns u. IsCalm u) (each (enter from first left (values_below w values)) (arrivals x o.given) t)) (sym m.is) (by_given (is_given name (build_role_of (look_of w))) (children_so w m.node m.type m.fine (is_given name (build_role_of (look_of w))) refl)))
      where
        by_given : (g : Bool) → AskedIf g (AllOf (NumbersAre (Other k)) (children_of m.node)) (AllOf IsFine (children_of m.node)) → Ends (λ ns u. IsCalm u) (each (enter from first left (values_below w values)) (arrivals (Some m.node) o.given) t)
        by_given true h =
            each_calm (Other k) start new from holders (enter from first left (values_below w values)) (λ b u g c. enter_calm (Other k) start new from holders first left (values_below w values) b u g c) (arrivals (Some m.node) o.given) t
            (good_from (Other k) (children_of m.node) 0 o.given (matching (widgets_had (Some m.node)) o.given) h) calm
        by_given false h =
            each_fine (enter from first left (values_below w values)) (λ b u g c. step (values_below w values) b u g c) (arrivals (Some m.node) o.given) t (fine_from (children_of m.node) 0 o.given (matching (widgets_had (Some m.node)) o.given) h) calm

    pub enter_fine : (left : ℕ) (values : List Value) (a : Arrival) (s : Progress) → Arrives a → IsCalm s → Ends (λ n t. IsCalm t) (enter from first left values a s)
    unfolding enter
    enter_fine zero values a s h calm = tt
    enter_fine (suc left) values a s h calm =
        ends_then (IsOpened from values a s) (λ n t. IsCalm t) (opened from values a s) _ (opened_ends from values a s) (λ o t is.
        ends_then (λ ns u. IsCalm u) (λ n u. IsCalm u) (entered_below (enter from first left) first values a.widget o t) _
        (below_fine left values a.widget o t (λ vs b u g c. enter_fine left vs b u g c) (subst (PartnerIs a.widget) (sym is.partner) (partner_so a h)) (opened_calm values a s o t calm is))
        (λ ns u c. c))

    -- ---- with that value

    pub each_valued : (go : Arrival → Progress → Step PlainNode) (seen : Arrival → Progress → List Entered) → ((a : Arrival) (s : Progress) → Arrives a → IsCalm s → Ends (λ n t. IsCalm t) (go a s))
        → ((a : Arrival) (s : Progress) → Arrives a → IsCalm s → AreValued (seen a s)) → (bs : List Arrival) (s : Progress) → AllOf Arrives bs → IsCalm s → AreValued (seen_by_each go seen bs s)
    each_valued go seen step so [] s h calm = tt
    each_valued go seen step so (a ∷ bs) s h calm =
        valued_append (seen a s) _ (so a s h.0 calm) (valued_after (λ n t. IsCalm t) (go a s) _ (step a s h.0 calm) (λ n t c. each_valued go seen step so bs t h.1 c))

    value_stays : (p : BuildRole) (vs : List Value) → is_given name p ≡ false → value_at vs name ≡ value → value_at (values_by p vs) name ≡ value
    value_stays (composes i ps) vs g e = e
    value_stays (provides j v) vs g e = set_there name j vs v _ (eqb-false j name g) ∙ e
    value_stays (keeps kept) vs g e = e
    value_stays (lists extent) vs g e = e
    value_stays holds vs g e = e

    seen_good : (left : ℕ) (above : List ℕ) (values : List Value) (bs : List Arrival) (t : Progress) → AllOf (λ (a : Arrival). IfSome a.beside (NumbersAre (Other k))) bs → IsCalm t
        → AreValued (seen_by_each (enter from first left values) (seen_from from first left above values) bs t)
    seen_good left above values bs t h calm =
        valued_others _ (so_each (Other k) start new from holders (enter from first left values) (seen_from from first left above values)
        (λ b u g c. enter_calm (Other k) start new from holders first left values b u g c) (λ b u g c. seen_so (Other k) start new from holders first left above values b u g c) bs t h calm)

    pub children_valued : (left : ℕ) (above : List ℕ) (values : List Value) (w : PlainWidget) (o : Opening) (t : Progress) → IsCalm t → (n : PlainNode) → (g : Bool) → is_given name (build_role_of (look_of w)) ≡ g
        → AskedIf g (AllOf (NumbersAre (Other k)) (children_of n)) (AllOf IsFine (children_of n)) → value_at values name ≡ value
        → ((vs : List Value) (b : Arrival) (u : Progress) → Arrives b → IsCalm u → value_at vs name ≡ value → AreValued (seen_from from first left above vs b u))
        → AreValued (seen_by_each (enter from first left (values_below w values)) (seen_from from first left above (values_below w values)) (arrivals (Some n) o.given) t)
    children_valued left above values w o t c n true is h e step =
        seen_good left above (values_below w values) (arrivals (Some n) o.given) t (good_from (Other k) (children_of n) 0 o.given (matching (widgets_had (Some n)) o.given) h) c
    children_valued left above values w o t c n false is h e step =
        each_valued (enter from first left (values_below w values)) (seen_from from first left above (values_below w values)) (λ b u g d. enter_fine left (values_below w values) b u g d)
        (λ b u g d. step (values_below w values) b u g d (value_stays (build_role_of (look_of w)) values is e)) (arrivals (Some n) o.given) t
        (fine_from (children_of n) 0 o.given (matching (widgets_had (Some n)) o.given) h) c

    pub seen_fine : (left : ℕ) (above : List ℕ) (values : List Value) (a : Arrival) (s : Progress) → Arrives a → IsCalm s → value_at values name ≡ value → AreValued (seen_from from first left above values a s)
    unfolding seen_from
    seen_fine zero above values a s h calm e = tt
    seen_fine (suc left) above values a s h calm e =
        valued_when (is_let_in from a s) _ (
          λ same. e,
          valued_after (IsOpened from values a s) (opened from values a s) _ (opened_ends from values a s) (λ o t is.
              valued_unless (waits first (build_role_of (look_of a.widget))) _
              (by_partner o t (opened_calm values a s o t calm is) (subst (PartnerIs a.widget) (sym is.partner) (partner_so a h))
              (λ vs b u g c d. seen_fine left (o.number ∷ above) vs b u g c d))),
        )
      where
        by_partner : (o : Opening) (t : Progress) → IsCalm t → PartnerIs a.widget o.partner
            → ((vs : List Value) (b : Arrival) (u : Progress) → Arrives b → IsCalm u → value_at vs name ≡ value → AreValued (seen_from from first left (o.number ∷ above) vs b u))
            → AreValued (seen_by_each (enter from first left (values_below a.widget values)) (seen_from from first left (o.number ∷ above) (values_below a.widget values)) (arrivals o.partner o.given) t)
        by_partner o t c (inl good) step = seen_good left (o.number ∷ above) (values_below a.widget values) (arrivals o.partner o.given) t (good_arrivals (Other k) o.partner o.given good) c
        by_partner o t c (inr m) step =
            subst (λ x. AreValued (seen_by_each (enter from first left (values_below a.widget values)) (seen_from from first left (o.number ∷ above) (values_below a.widget values)) (arrivals x o.given) t)) (sym m.is)
            (children_valued left (o.number ∷ above) values a.widget o t c m.node (is_given name (build_role_of (look_of a.widget))) refl (children_so a.widget m.node m.type m.fine (is_given name (build_role_of (look_of a.widget))) refl) e step)
