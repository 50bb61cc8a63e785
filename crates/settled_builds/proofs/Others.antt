-- Below a node, and beside it, a build enters nodes with other numbers than that one's.
use Rattle.std.proofs.Common.{ℕ, zero, suc, ◌-◌, ◌≤◌, Bool, true, false, cond, Option, Some, None, IfSome, List, [], ◌∷◌, ◌++◌, filter, length, sym, subst, arith}
use Rattle.std.specs.List.{find}
use Rattle.fx_expr.specs.declared.values.Value.{Value}
use Rattle.widget_keys.specs.declared.keys.Key.{Key}
use Rattle.widget_keys.specs.declared.keys.Key.TheVariants as key
use Rattle.widget_model.specs.Plain.{PlainWidget, look_of, key_of}
use Rattle.widget_model.specs.Plain.{children_of as child_widgets}
use Rattle.widget_model.specs.Update.{same_type}
use Rattle.reconcile.specs.Matching.{matching}
use Rattle.sliver_layout.specs.declared.protocol.Window.{Window}
use Rattle.plain_tree.specs.PlainNode.{PlainNode, node, PlainNodes, no_nodes, more_nodes, list_of, number_of, widget_of}
use Rattle.build_form.specs.Step.{Progress, Step, stops, gives, each}
use Rattle.build_form.specs.BuildRole.{BuildRole, composes, provides, keeps, lists, holds, build_role_of}
use Rattle.build_form.specs.Partner.{Arrival, node_at_any, arrivals_from, arrivals, nodes_had, widgets_had, of_type, candidate, partner_of}
use Rattle.build_form.specs.Entering.{Basis, Phase, second, depth_limit, number_for, values_below, waits, put_off, Opening, opened, entered_below, enter}
use Rattle.build_form.specs.FullBuild.{Ranges, items, next_waiting, others_waiting, one_served, items_entered, if_lazy, filled, all_filled}
use Rattle.build_form.specs.Laws.{NumbersAre, AllNumbersAre}
use Rattle.work_sets.specs.Entered.{Entered, is_let_in, after, seen_by_each, seen_from, seen_items, items_or, seen_filling, all_seen_filling, seen_second}
use Rattle.build_walk.proofs.Stepping.{Ends, ends_then, AllOf}
use Rattle.build_walk.proofs.Opened.{IsOpened, opened_ends}

module _ (P : ℕ → Type 0) where
  -- ---- old nodes with such numbers

  abbrev Good : Option PlainNode → Type 0
  Good o = IfSome o (NumbersAre P)

  abbrev AreGood : List PlainNode → Type 0
  AreGood ns = AllOf (NumbersAre P) ns

  abbrev IsGood : Arrival → Type 0
  IsGood a = Good a.beside

  pub good_list : (ns : PlainNodes) → AllNumbersAre P ns → AreGood (list_of ns)
  good_list no_nodes h = tt
  good_list (more_nodes n ns) h = (h.0, good_list ns h.1)

  good_if : (b : Bool) (n : PlainNode) (o : Option PlainNode) → NumbersAre P n → Good o → Good (cond b (Some n) o)
  good_if true n o h g = h
  good_if false n o h g = g

  good_found : (test : PlainNode → Bool) (ns : List PlainNode) → AreGood ns → Good (find test ns)
  good_found test [] h = tt
  good_found test (n ∷ ns) h = good_if (test n) n (find test ns) h.0 (good_found test ns h.1)

  good_at : (ns : List PlainNode) (m : Option ℕ) → AreGood ns → Good (node_at_any ns m)
  good_at ns None h = tt
  good_at ns (Some j) h = good_found _ ns h

  pub good_from : (ns : List PlainNode) (i : ℕ) (ws : List PlainWidget) (ms : List (Option ℕ)) → AreGood ns → AllOf IsGood (arrivals_from ns i ws ms)
  good_from ns i [] ms h = tt
  good_from ns i (w ∷ ws) [] h = (tt, good_from ns (suc i) ws [] h)
  good_from ns i (w ∷ ws) (m ∷ ms) h = (good_at ns m h, good_from ns (suc i) ws ms h)

  good_had : (o : Option PlainNode) → Good o → AreGood (nodes_had o)
  good_had None h = tt
  good_had (Some (node number widget fields scroll index children)) h = good_list children h.1

  pub good_arrivals : (o : Option PlainNode) (ws : List PlainWidget) → Good o → AllOf IsGood (arrivals o ws)
  good_arrivals o ws h = good_from (nodes_had o) 0 ws (matching (widgets_had o) ws) (good_had o h)

  good_some : (b : Bool) (a : Arrival) (bs : List Arrival) → IsGood a → AllOf IsGood bs → AllOf IsGood (cond b (a ∷ bs) bs)
  good_some true a bs h k = (h, k)
  good_some false a bs h k = k

  good_filtered : (test : Arrival → Bool) (bs : List Arrival) → AllOf IsGood bs → AllOf IsGood (filter test bs)
  good_filtered test [] h = tt
  good_filtered test (a ∷ bs) h = good_some (test a) a (filter test bs) h.0 (good_filtered test bs h.1)

  good_number : (n : PlainNode) → NumbersAre P n → P (number_of n)
  good_number (node number widget fields scroll index children) h = h.0

  -- ---- what is entered

  abbrev pub AreSo : List Entered → Type 0
  AreSo es = AllOf (λ (e : Entered). P e.number) es

  pub so_append : (es fs : List Entered) → AreSo es → AreSo fs → AreSo (es ++ fs)
  so_append [] fs h k = k
  so_append (e ∷ es) fs h k = (h.0, so_append es fs h.1 k)

  pub so_after : {A : Type 0} (Q : A → Progress → Type 0) (r : Step A) (later : A → Progress → List Entered) → Ends Q r → ((x : A) (t : Progress) → Q x t → AreSo (later x t)) → AreSo (after r later)
  so_after Q (stops f) later h k = tt
  so_after Q (gives x t) later h k = k x t h

  so_when : (b : Bool) (es : List Entered) → AreSo es → AreSo (cond b es [])
  so_when true es h = h
  so_when false es h = tt

  so_unless : (b : Bool) (es : List Entered) → AreSo es → AreSo (cond b [] es)
  so_unless true es h = tt
  so_unless false es h = h

  module _ (start : ℕ) (new : (n : ℕ) → start ≤ n → P n) (from : Basis) (holders : (k : Value) → Good (from.holder k)) where
    -- lists that wait go on from good nodes, and numbers that are given are new
    abbrev pub Calm : Progress → Type 0
    Calm s = AllOf Good s.waiting × (start ≤ s.next)

    good_type : (w : PlainWidget) (o : Option PlainNode) → Good o → Good (of_type w o)
    good_type w None h = tt
    good_type w (Some n) h = good_if (same_type (widget_of n) w) n None h tt

    good_candidate : (k : Key Value) (o : Option PlainNode) → Good o → Good (candidate k from.holder o)
    good_candidate key.None o g = g
    good_candidate (key.Local v) o g = g
    good_candidate (key.Global v) o g = holders v

    good_partner : (a : Arrival) → IsGood a → Good (partner_of from.holder a)
    good_partner a h = good_type a.widget (candidate (key_of a.widget) from.holder a.beside) (good_candidate (key_of a.widget) a.beside h)

    number_so : (o : Option PlainNode) (s : Progress) → Calm s → Good o → P (number_for o s)
    number_so None s calm h = new s.next calm.1
    number_so (Some n) s calm h = good_number n h

    later_new : (a b c : ℕ) → a ≤ b → b ≤ c → a ≤ c
    later_new a b c h k = omega arith

    pub waiting_more : (os : List (Option PlainNode)) (o : Option PlainNode) → AllOf Good os → Good o → AllOf Good (os ++ o ∷ [])
    waiting_more [] o h g = (g, tt)
    waiting_more (x ∷ os) o h g = (h.0, waiting_more os o h.1 g)

    opened_calm : (values : List Value) (a : Arrival) (s : Progress) (o : Opening) (t : Progress) → Calm s → IsOpened from values a s o t → Calm t
    opened_calm values a s o t calm is = (subst (AllOf Good) (sym is.waiting) calm.0, later_new start s.next t.next calm.1 is.grows)

    opened_good : (values : List Value) (a : Arrival) (s : Progress) (o : Opening) (t : Progress) → IsGood a → IsOpened from values a s o t → Good o.partner
    opened_good values a s o t h is = subst Good (sym is.partner) (good_partner a h)

    pub each_calm : (go : Arrival → Progress → Step PlainNode) → ((a : Arrival) (s : Progress) → IsGood a → Calm s → Ends (λ n t. Calm t) (go a s)) → (bs : List Arrival) (s : Progress) → AllOf IsGood bs → Calm s → Ends (λ ns t. Calm t) (each go bs s)
    each_calm go step [] s h calm = calm
    each_calm go step (a ∷ bs) s h calm =
        ends_then (λ n t. Calm t) (λ ns t. Calm t) (go a s) _ (step a s h.0 calm)
        (λ n t c. ends_then (λ ns u. Calm u) (λ ns u. Calm u) (each go bs t) _ (each_calm go step bs t h.1 c) (λ ns u d. d))

    below_calm : (b : Bool) (o : Opening) (s : Progress) (go : Arrival → Progress → Step PlainNode) → Good o.partner → Calm s → ((a : Arrival) (s : Progress) → IsGood a → Calm s → Ends (λ n t. Calm t) (go a s))
        → Ends (λ ns t. Calm t) (cond b (put_off o.partner s) (each go (arrivals o.partner o.given) s))
    below_calm true o s go good calm step = (waiting_more s.waiting o.partner calm.0 good, calm.1)
    below_calm false o s go good calm step = each_calm go step (arrivals o.partner o.given) s (good_arrivals o.partner o.given good) calm

    pub enter_calm : (phase : Phase) (left : ℕ) (values : List Value) (a : Arrival) (s : Progress) → IsGood a → Calm s → Ends (λ n t. Calm t) (enter from phase left values a s)
    unfolding enter
    enter_calm phase zero values a s h calm = tt
    enter_calm phase (suc left) values a s h calm =
        ends_then (IsOpened from values a s) (λ n t. Calm t) (opened from values a s) _ (opened_ends from values a s) (λ o t is.
        ends_then (λ ns u. Calm u) (λ n u. Calm u) (entered_below (enter from phase left) phase values a.widget o t) _
        (below_calm (waits phase (build_role_of (look_of a.widget))) o t (enter from phase left (values_below a.widget values)) (opened_good values a s o t h is) (opened_calm values a s o t calm is)
        (λ b u g c. enter_calm phase left (values_below a.widget values) b u g c))
        (λ ns u c. c))

    pub so_each : (go : Arrival → Progress → Step PlainNode) (seen : Arrival → Progress → List Entered) → ((a : Arrival) (s : Progress) → IsGood a → Calm s → Ends (λ n t. Calm t) (go a s))
        → ((a : Arrival) (s : Progress) → IsGood a → Calm s → AreSo (seen a s)) → (bs : List Arrival) (s : Progress) → AllOf IsGood bs → Calm s → AreSo (seen_by_each go seen bs s)
    so_each go seen step so [] s h calm = tt
    so_each go seen step so (a ∷ bs) s h calm =
        so_append (seen a s) _ (so a s h.0 calm) (so_after (λ n t. Calm t) (go a s) _ (step a s h.0 calm) (λ n t c. so_each go seen step so bs t h.1 c))

    pub seen_so : (phase : Phase) (left : ℕ) (above : List ℕ) (values : List Value) (a : Arrival) (s : Progress) → IsGood a → Calm s → AreSo (seen_from from phase left above values a s)
    unfolding seen_from
    seen_so phase zero above values a s h calm = tt
    seen_so phase (suc left) above values a s h calm =
        so_when (is_let_in from a s) _ (
          number_so (partner_of from.holder a) s calm (good_partner a h),
          so_after (IsOpened from values a s) (opened from values a s) _ (opened_ends from values a s) (λ o t is.
              so_unless (waits phase (build_role_of (look_of a.widget))) _
              (so_each (enter from phase left (values_below a.widget values)) (seen_from from phase left (o.number ∷ above) (values_below a.widget values))
              (λ b u g c. enter_calm phase left (values_below a.widget values) b u g c) (λ b u g c. seen_so phase left (o.number ∷ above) (values_below a.widget values) b u g c)
              (arrivals o.partner o.given) t (good_arrivals o.partner o.given (opened_good values a s o t h is)) (opened_calm values a s o t calm is))),
        )

    -- ---- in the second phase

    good_next : (os : List (Option PlainNode)) → AllOf Good os → Good (next_waiting os)
    good_next [] h = tt
    good_next (o ∷ os) h = h.0

    good_others : (os : List (Option PlainNode)) → AllOf Good os → AllOf Good (others_waiting os)
    good_others [] h = tt
    good_others (o ∷ os) h = h.1

    served_calm : (s : Progress) → Calm s → Calm (one_served s)
    served_calm s calm = (good_others s.waiting calm.0, calm.1)

    there_good : (range : ℕ → Window) (ws : List PlainWidget) (s : Progress) → Calm s → AllOf IsGood (items (range (length ws)) (arrivals (next_waiting s.waiting) ws))
    there_good range ws s calm = good_filtered _ (arrivals (next_waiting s.waiting) ws) (good_arrivals (next_waiting s.waiting) ws (good_next s.waiting calm.0))

    items_calm : (left : ℕ) (values : List Value) (range : ℕ → Window) (ws : List PlainWidget) (s : Progress) → Calm s → Ends (λ ns t. Calm t) (items_entered from left values range ws s)
    items_calm left values range ws s calm =
        ends_then (λ ns t. Calm t) (λ ns t. Calm t) (each (enter from second left values) (items (range (length ws)) (arrivals (next_waiting s.waiting) ws)) (one_served s)) _
        (each_calm (enter from second left values) (λ b u g c. enter_calm second left values b u g c) (items (range (length ws)) (arrivals (next_waiting s.waiting) ws)) (one_served s) (there_good range ws s calm) (served_calm s calm))
        (λ ns t c. c)

    items_so : (left : ℕ) (above : List ℕ) (values : List Value) (range : ℕ → Window) (ws : List PlainWidget) (s : Progress) → Calm s → AreSo (seen_items from left above values range ws s)
    items_so left above values range ws s calm =
        so_each (enter from second left values) (seen_from from second left above values) (λ b u g c. enter_calm second left values b u g c) (λ b u g c. seen_so second left above values b u g c)
        (items (range (length ws)) (arrivals (next_waiting s.waiting) ws)) (one_served s) (there_good range ws s calm) (served_calm s calm)

    calm_by : (p : BuildRole) (itemized : ℕ → Progress → Step PlainNodes) (others : Progress → Step PlainNodes) (s : Progress) → ((e : ℕ) → Ends (λ ns t. Calm t) (itemized e s)) → Ends (λ ns t. Calm t) (others s)
        → Ends (λ ns t. Calm t) (if_lazy p itemized others s)
    calm_by (composes place props) itemized others s h k = k
    calm_by (provides name value) itemized others s h k = k
    calm_by (keeps kept) itemized others s h k = k
    calm_by (lists extent) itemized others s h k = h extent
    calm_by holds itemized others s h k = k

    so_by : (p : BuildRole) (itemized : ℕ → List Entered) (others : List Entered) → ((e : ℕ) → AreSo (itemized e)) → AreSo others → AreSo (items_or p itemized others)
    so_by (composes place props) itemized others h k = k
    so_by (provides name value) itemized others h k = k
    so_by (keeps kept) itemized others h k = k
    so_by (lists extent) itemized others h k = h extent
    so_by holds itemized others h k = k

    module _ (ranges : Ranges) where
      mutual
        unfolding filled

        filled_calm : (left : ℕ) (values : List Value) (n : PlainNode) (s : Progress) → Calm s → Ends (λ m t. Calm t) (filled from ranges left values n s)
        filled_calm left values (node number widget fields scroll index children) s calm =
            let below = values_below widget values in
            ends_then (λ ns t. Calm t) (λ m t. Calm t)
            (if_lazy (build_role_of (look_of widget)) (λ e s1. items_entered from (left - 1) below (ranges number e) (child_widgets widget) s1) (λ s1. all_filled from ranges (left - 1) below children s1) s) _
            (calm_by (build_role_of (look_of widget)) (λ e s1. items_entered from (left - 1) below (ranges number e) (child_widgets widget) s1) (λ s1. all_filled from ranges (left - 1) below children s1) s
            (λ e. items_calm (left - 1) below (ranges number e) (child_widgets widget) s calm) (all_filled_calm (left - 1) below children s calm))
            (λ ns t c. c)

        all_filled_calm : (left : ℕ) (values : List Value) (ns : PlainNodes) (s : Progress) → Calm s → Ends (λ ms t. Calm t) (all_filled from ranges left values ns s)
        all_filled_calm left values no_nodes s calm = calm
        all_filled_calm left values (more_nodes n ns) s calm =
            ends_then (λ m t. Calm t) (λ ms t. Calm t) (filled from ranges left values n s) _ (filled_calm left values n s calm)
            (λ m t c. ends_then (λ ms u. Calm u) (λ ms u. Calm u) (all_filled from ranges left values ns t) _ (all_filled_calm left values ns t c) (λ ms u d. d))

      mutual
        unfolding seen_filling all_seen_filling

        pub filling_so : (left : ℕ) (above : List ℕ) (values : List Value) (n : PlainNode) (s : Progress) → Calm s → AreSo (seen_filling from ranges left above values n s)
        filling_so left above values (node number widget fields scroll index children) s calm =
            so_by (build_role_of (look_of widget)) _ _ (λ e. items_so (left - 1) (number ∷ above) (values_below widget values) (ranges number e) (child_widgets widget) s calm)
            (all_filling_so (left - 1) (number ∷ above) (values_below widget values) children s calm)

        all_filling_so : (left : ℕ) (above : List ℕ) (values : List Value) (ns : PlainNodes) (s : Progress) → Calm s → AreSo (all_seen_filling from ranges left above values ns s)
        all_filling_so left above values no_nodes s calm = tt
        all_filling_so left above values (more_nodes n ns) s calm =
            so_append (seen_filling from ranges left above values n s) _ (filling_so left above values n s calm)
            (so_after (λ m t. Calm t) (filled from ranges left values n s) _ (filled_calm left values n s calm) (λ m t c. all_filling_so left above values ns t c))

    pub second_so : (ranges : PlainNode → Ranges) (tree : PlainNode) (waiting : List (Option PlainNode)) (s : Progress) → Calm s → AreSo (seen_second from ranges tree waiting s)
    second_so ranges tree [] s calm = tt
    second_so ranges tree (o ∷ os) s calm = filling_so (ranges tree) depth_limit [] from.program.defaults tree s calm
