-- The builds of a walk that keeps outputs are those of the widgets that it enters, each once, that are new, marked, changed or read
-- another value.
use Rattle.std.proofs.Common.{◌≡◌, ℕ, zero, suc, ◌+◌, ◌-◌, ◌≤◌, Bool, true, false, not, ◌&&◌, ◌||◌, cond, length, filter, Option, Some, None, IfSome, List, [], ◌∷◌, ◌++◌, refl, sym, ap, ◌∙◌, subst, Decides, arith}
use Rattle.std.specs.List.{list_any, list_all}
use Rattle.fx_expr.specs.declared.values.Value.{Value}
use Rattle.fx_expr.specs.Scope.{value_at}
use Rattle.fx_expr.specs.Value.{value_eq}
use Rattle.sliver_layout.specs.declared.protocol.Window.{Window}
use Rattle.widget_model.specs.Plain.{PlainWidget, look_of}
use Rattle.widget_model.specs.Plain.{children_of as child_widgets}
use Rattle.plain_tree.specs.PlainNode.{PlainNode, node, PlainNodes, no_nodes, more_nodes, number_of}
use Rattle.build_form.specs.Step.{Progress, Step, stops, gives}
use Rattle.build_form.specs.BuildRole.{BuildRole, composes, provides, keeps, lists, holds, build_role_of}
use Rattle.build_form.specs.Partner.{Arrival, partner_of, arrivals}
use Rattle.build_form.specs.Entering.{Basis, Phase, first, second, depth_limit, number_for, values_below, waits, Opening, opened, enter}
use Rattle.build_form.specs.FullBuild.{Ranges, items, next_waiting, one_served, filled}
use Rattle.work_sets.specs.Due.{names_read, was_entered}
use Rattle.work_sets.specs.Entered.{Entered, entered, is_let_in, after, seen_by_each, seen_below, seen_from, seen_items, items_or, seen_filling, all_seen_filling, seen_second, seen_in_both}
use Rattle.work_sets.specs.Members.{is_same_widget}
use Rattle.build_walk.specs.Past.{Past, Pasts}
use Rattle.build_walk.specs.Fresh.{IsKnown}
use Rattle.build_walk.specs.Keeping.{reads_alike, is_unchanged, kept_since, past_for, kept_output, reopened, reenter, refilled}
use Rattle.build_walk.specs.Counting.{is_built_reader, is_built, one_unless, built_here, count_after, builds_by_each, builds_below, builds_from, builds_in_items, count_or, builds_filling, all_builds_filling, builds_second, builds_in_both, Tells}
use Rattle.build_walk.proofs.Stepping.{Ends, AllOf}
use Rattle.build_walk.proofs.Arriving.{IsKnownArrival, AreKnownHolders, arrivals_known}
use Rattle.build_walk.proofs.Opened.{IsOpened, opened_ends}
use Rattle.build_walk.proofs.Reentering.{Calm, long_by, opened_same, enter_same, enter_calm, known_opened, calm_opened, there_known, served_calm, filled_same, filled_calm}

-- ---- how many pass a test

abbrev pub many : (Entered → Bool) → List Entered → ℕ
many test es = length (filter test es)

abbrev one : Bool → ℕ
one true = 1
one false = 0

one_more : (b : Bool) (e : Entered) (es : List Entered) → length (cond b (e ∷ es) es) ≡ one b + length es
one_more true e es = omega arith
one_more false e es = omega arith

pub many_more : (test : Entered → Bool) (e : Entered) (es : List Entered) → many test (e ∷ es) ≡ one (test e) + many test es
many_more test e es = one_more (test e) e (filter test es)

pub many_append : (test : Entered → Bool) (xs ys : List Entered) → many test (xs ++ ys) ≡ many test xs + many test ys
many_append test [] ys = omega arith
many_append test (x ∷ xs) ys =
    let a = many_more test x (xs ++ ys) in
    let b = many_more test x xs in
    let c = many_append test xs ys in
    omega arith

-- ---- a component that keeps nothing

either_not : (a b : Bool) → not (a && b) ≡ (not a || not b)
either_not true b = refl
either_not false b = refl

not_not : (a : Bool) → not (not a) ≡ a
not_not true = refl
not_not false = refl

some_not : (p : ℕ → Bool) (names : List ℕ) → not (list_all p names) ≡ list_any (λ n. not (p n)) names
some_not p [] = refl
some_not p (n ∷ names) = either_not (p n) (list_all p names) ∙ ap (λ b. not (p n) || b) (some_not p names)

one_kept : (b : Bool) (ws : List PlainWidget) → one_unless (cond b (Some ws) None) ≡ one (not b)
one_kept true ws = refl
one_kept false ws = refl

three : (m s a : Bool) → not (not m && (s && a)) ≡ (m || (not s || not a))
three true s a = refl
three false true a = refl
three false false a = refl

module _ (marks : List ℕ) (number : ℕ) (w : PlainWidget) (above : List ℕ) (values : List Value) where
  abbrev changed : List ℕ → Past → Bool
  changed names p =
      p.marked || (not (is_same_widget p.widget w) || list_any (λ name. not (value_eq (value_at p.values name) (value_at values name))) names)

  not_unchanged : (names : List ℕ) (p : Past) → not (is_unchanged names p w values) ≡ changed names p
  not_unchanged names p =
      three p.marked (is_same_widget p.widget w) (reads_alike names p.values values)
      ∙ ap (λ b. p.marked || (not (is_same_widget p.widget w) || b)) (some_not (λ name. value_eq (value_at p.values name) (value_at values name)) names)

  pub counted_here : (r : Option (List ℕ)) (p : Option Past) (was : Option Entered) → Tells marks number p was
      → built_here r (kept_since r p w values) ≡ one (is_built_reader r was marks (entered number w above values))
  counted_here None p was t = refl
  counted_here (Some names) None None t = refl
  counted_here (Some names) None (Some e) t = absurd t
  counted_here (Some names) (Some p) None t = absurd t
  counted_here (Some names) (Some p) (Some e) t =
      one_kept (is_unchanged names p w values) p.output
      ∙ ap one (not_unchanged names p)
      ∙ (λ i. one (t.2 i || (not (is_same_widget (t.0 i) w) || list_any (λ name. not (value_eq (value_at (t.1 i) name) (value_at values name))) names)))

-- ---- step by step

when : (test : Entered → Bool) (b : Bool) (m : ℕ) (es : List Entered) → m ≡ many test es → cond b m 0 ≡ many test (cond b es [])
when test true m es e = e
when test false m es e = refl

unless : (test : Entered → Bool) (b : Bool) (m : ℕ) (es : List Entered) → m ≡ many test es → cond b 0 m ≡ many test (cond b [] es)
unless test true m es e = refl
unless test false m es e = e

after_same : {A : Type 0} (test : Entered → Bool) (P : A → Progress → Type 0) (r : Step A) (count : A → Progress → ℕ) (seen : A → Progress → List Entered)
    → Ends P r → ((x : A) (t : Progress) → P x t → count x t ≡ many test (seen x t)) → count_after r count ≡ many test (after r seen)
after_same test P (stops f) count seen h same = refl
after_same test P (gives x t) count seen h same = same x t h

each_counted : {A B : Type 0} (test : Entered → Bool) (K : A → Type 0) (Q : Progress → Type 0) (go also : A → Progress → Step B) (count : A → Progress → ℕ) (seen : A → Progress → List Entered)
    → ((x : A) (s : Progress) → K x → Q s → also x s ≡ go x s) → ((x : A) (s : Progress) → K x → Q s → Ends (λ y t. Q t) (go x s))
    → ((x : A) (s : Progress) → K x → Q s → count x s ≡ many test (seen x s))
    → (xs : List A) (s : Progress) → AllOf K xs → Q s → builds_by_each also count xs s ≡ many test (seen_by_each go seen xs s)
each_counted test K Q go also count seen same leaves counts [] s k q = refl
each_counted test K Q go also count seen same leaves counts (x ∷ xs) s k q =
    let head = counts x s k.0 q in
    let tail : count_after (also x s) (λ y s1. builds_by_each also count xs s1) ≡ many test (after (go x s) (λ y s1. seen_by_each go seen xs s1)) =
    ap (λ r. count_after r (λ y s1. builds_by_each also count xs s1)) (same x s k.0 q)
    ∙ after_same test (λ y t. Q t) (go x s) _ _ (leaves x s k.0 q) (λ y t q1. each_counted test K Q go also count seen same leaves counts xs t k.1 q1) in
    (λ i. head i + tail i) ∙ sym (many_append test (seen x s) (after (go x s) (λ y s1. seen_by_each go seen xs s1)))

module _ (from : Basis) (pasts : Pasts) (exact : (v w : PlainWidget) → Decides (is_same_widget v w) (v ≡ w)) (holders : AreKnownHolders from.program pasts from.holder) (start : ℕ)
    (old : Option PlainNode) (marks : List ℕ) (tells : (k : ℕ) → Tells marks k (pasts k) (was_entered from.program.defaults old k))
    (free : (k : ℕ) → start ≤ k → was_entered from.program.defaults old k ≡ None) where
  abbrev Quiet : Progress → Type 0
  Quiet s = Calm from pasts exact holders start s

  abbrev IsOld : Arrival → Type 0
  IsOld a = IsKnownArrival from.program pasts a

  abbrev Long : List Value → Type 0
  Long values = length values ≡ length from.program.defaults

  abbrev test : Entered → Bool
  test e = is_built from.program.defaults old marks e

  -- ---- where a widget is entered

  told : (partner : Option PlainNode) (s : Progress) → start ≤ s.next
      → Tells marks (number_for partner s) (past_for pasts partner) (was_entered from.program.defaults old (number_for partner s))
  told None s low = subst (Tells marks s.next None) (sym (free s.next low)) tt
  told (Some n) s low = tells (number_of n)

  head : (above : List ℕ) (values : List Value) (a : Arrival) (s : Progress) → Quiet s
      → built_here (names_read (look_of a.widget)) (kept_output pasts (partner_of from.holder a) a.widget values)
      ≡ one (test (entered (number_for (partner_of from.holder a) s) a.widget above values))
  head above values a s calm =
      counted_here marks (number_for (partner_of from.holder a) s) a.widget above values (names_read (look_of a.widget)) (past_for pasts (partner_of from.holder a))
      (was_entered from.program.defaults old (number_for (partner_of from.holder a) s)) (told (partner_of from.holder a) s calm.1)

  below_counted : (phase : Phase) (left : ℕ) (above : List ℕ) (values : List Value) (w : PlainWidget) (o : Opening) (s : Progress) (t : Bool) → Long values
      → ((a : Arrival) (s : Progress) → IsOld a → Quiet s
      → builds_from from pasts phase left (values_below w values) a s ≡ many test (seen_from from phase left above (values_below w values) a s))
      → IfSome o.partner (IsKnown from.program pasts) → Quiet s
      → cond t 0 (builds_by_each (reenter from pasts phase left (values_below w values)) (builds_from from pasts phase left (values_below w values)) (arrivals o.partner o.given) s)
      ≡ many test (cond t [] (seen_by_each (enter from phase left (values_below w values)) (seen_from from phase left above (values_below w values)) (arrivals o.partner o.given) s))
  below_counted phase left above values w o s t long counts known calm =
      unless test t _ _
      (each_counted test IsOld Quiet (enter from phase left (values_below w values)) (reenter from pasts phase left (values_below w values)) _ _
      (λ x u k q. enter_same from pasts exact holders start phase left (values_below w values) x u (long_by (build_role_of (look_of w)) values ∙ long) k q)
      (λ x u k q. enter_calm from pasts exact holders start phase left (values_below w values) x u k q)
      counts (arrivals o.partner o.given) s (arrivals_known from.program pasts o.partner o.given known) calm)

  pub from_counted : (phase : Phase) (left : ℕ) (above : List ℕ) (values : List Value) (a : Arrival) (s : Progress) → Long values → IsOld a → Quiet s
      → builds_from from pasts phase left values a s ≡ many test (seen_from from phase left above values a s)
  unfolding builds_from seen_from
  from_counted phase zero above values a s long known calm = refl
  from_counted phase (suc left) above values a s long known calm =
      let e = entered (number_for (partner_of from.holder a) s) a.widget above values in
      let here = head above values a s calm in
      let tail : count_after (reopened from pasts values a s) (λ o s1. builds_below (reenter from pasts phase left) (builds_from from pasts phase left) phase values a.widget o s1)
      ≡ many test (after (opened from values a s) (λ o s1. seen_below (enter from phase left) (seen_from from phase left (o.number ∷ above)) phase values a.widget o s1)) =
      ap (λ r. count_after r (λ o s1. builds_below (reenter from pasts phase left) (builds_from from pasts phase left) phase values a.widget o s1))
      (opened_same from pasts exact holders start values a s long known)
      ∙ after_same test (IsOpened from values a s) (opened from values a s) _ _ (opened_ends from values a s) (λ o t is.
      below_counted phase left (o.number ∷ above) values a.widget o t (waits phase (build_role_of (look_of a.widget))) long
      (λ x u k q. from_counted phase left (o.number ∷ above) (values_below a.widget values) x u (long_by (build_role_of (look_of a.widget)) values ∙ long) k q)
      (known_opened from pasts exact holders start values a s o t known is) (calm_opened from pasts exact holders start values a s o t calm is)) in
      when test (is_let_in from a s) _ _
      ((λ i. here i + tail i) ∙ sym (many_more test e (after (opened from values a s) (λ o s1. seen_below (enter from phase left) (seen_from from phase left (o.number ∷ above)) phase values a.widget o s1))))

  -- ---- the second phase

  pub items_counted : (left : ℕ) (above : List ℕ) (values : List Value) (range : ℕ → Window) (ws : List PlainWidget) (s : Progress) → Long values → Quiet s
      → builds_in_items from pasts left values range ws s ≡ many test (seen_items from left above values range ws s)
  items_counted left above values range ws s long calm =
      each_counted test IsOld Quiet (enter from second left values) (reenter from pasts second left values) _ _
      (λ x u k q. enter_same from pasts exact holders start second left values x u long k q)
      (λ x u k q. enter_calm from pasts exact holders start second left values x u k q)
      (λ x u k q. from_counted second left above values x u long k q)
      (items (range (length ws)) (arrivals (next_waiting s.waiting) ws)) (one_served s)
      (there_known from pasts exact holders start left values long range ws s calm) (served_calm from pasts exact holders start left values long range ws s calm)

  lazy_counted : (r : BuildRole) (counts : ℕ → ℕ) (seen : ℕ → List Entered) (m : ℕ) (es : List Entered) → ((extent : ℕ) → counts extent ≡ many test (seen extent)) → m ≡ many test es
      → count_or r counts m ≡ many test (items_or r seen es)
  lazy_counted (composes place props) counts seen m es h k = k
  lazy_counted (provides name value) counts seen m es h k = k
  lazy_counted (keeps kept) counts seen m es h k = k
  lazy_counted (lists extent) counts seen m es h k = h extent
  lazy_counted holds counts seen m es h k = k

  mutual
    unfolding builds_filling all_builds_filling seen_filling all_seen_filling

    pub filling_counted : (ranges : Ranges) (left : ℕ) (above : List ℕ) (values : List Value) (n : PlainNode) (s : Progress) → Long values → Quiet s
        → builds_filling from pasts ranges left values n s ≡ many test (seen_filling from ranges left above values n s)
    filling_counted ranges left above values (node number widget fields scroll index children) s long calm =
        let below = values_below widget values in
        let long_below = long_by (build_role_of (look_of widget)) values ∙ long in
        lazy_counted (build_role_of (look_of widget)) _ _ _ _
        (λ extent. items_counted (left - 1) (number ∷ above) below (ranges number extent) (child_widgets widget) s long_below calm)
        (all_filling_counted ranges (left - 1) (number ∷ above) below children s long_below calm)

    pub all_filling_counted : (ranges : Ranges) (left : ℕ) (above : List ℕ) (values : List Value) (ns : PlainNodes) (s : Progress) → Long values → Quiet s
        → all_builds_filling from pasts ranges left values ns s ≡ many test (all_seen_filling from ranges left above values ns s)
    all_filling_counted ranges left above values no_nodes s long calm = refl
    all_filling_counted ranges left above values (more_nodes n ns) s long calm =
        let here = filling_counted ranges left above values n s long calm in
        let tail : count_after (refilled from pasts ranges left values n s) (λ m s1. all_builds_filling from pasts ranges left values ns s1)
        ≡ many test (after (filled from ranges left values n s) (λ m s1. all_seen_filling from ranges left above values ns s1)) =
        ap (λ r. count_after r (λ m s1. all_builds_filling from pasts ranges left values ns s1)) (filled_same from pasts exact holders start ranges left values n s long calm)
        ∙ after_same test (λ m t. Quiet t) (filled from ranges left values n s) _ _ (filled_calm from pasts exact holders start ranges left values n s long calm)
        (λ m t c. all_filling_counted ranges left above values ns t long c) in
        (λ i. here i + tail i) ∙ sym (many_append test (seen_filling from ranges left above values n s) (after (filled from ranges left values n s) (λ m s1. all_seen_filling from ranges left above values ns s1)))

  second_counted : (ranges : PlainNode → Ranges) (tree : PlainNode) (waiting : List (Option PlainNode)) (s : Progress) → Quiet s
      → builds_second from pasts ranges tree waiting s ≡ many test (seen_second from ranges tree waiting s)
  second_counted ranges tree [] s calm = refl
  second_counted ranges tree (partner ∷ others) s calm = filling_counted (ranges tree) depth_limit [] from.program.defaults tree s refl calm

  pub both_counted : (ranges : PlainNode → Ranges) (root : Arrival) (s : Progress) → IsOld root → Quiet s
      → builds_in_both from pasts ranges root s ≡ many test (seen_in_both from ranges root s)
  unfolding builds_in_both seen_in_both
  both_counted ranges root s known calm =
      let values = from.program.defaults in
      let here = from_counted first depth_limit [] values root s refl known calm in
      let tail : count_after (reenter from pasts first depth_limit values root s) (λ tree s1. builds_second from pasts ranges tree s1.waiting s1)
      ≡ many test (after (enter from first depth_limit values root s) (λ tree s1. seen_second from ranges tree s1.waiting s1)) =
      ap (λ r. count_after r (λ tree s1. builds_second from pasts ranges tree s1.waiting s1)) (enter_same from pasts exact holders start first depth_limit values root s refl known calm)
      ∙ after_same test (λ n t. Quiet t) (enter from first depth_limit values root s) _ _ (enter_calm from pasts exact holders start first depth_limit values root s known calm)
      (λ tree t c. second_counted ranges tree t.waiting t c) in
      (λ i. here i + tail i) ∙ sym (many_append test (seen_from from first depth_limit [] values root s) (after (enter from first depth_limit values root s) (λ tree s1. seen_second from ranges tree s1.waiting s1)))
