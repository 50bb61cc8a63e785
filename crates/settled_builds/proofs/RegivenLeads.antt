-- The tree in which an Inherit gives the value that the first marked component gives it leads to what the old one does.
use Rattle.std.proofs.Common.{◌≡◌, ℕ, zero, suc, ◌+◌, ◌<◌, ◌≤◌, eqb, Bool, true, false, ◌||◌, cond, is_some, Option, Some, None, IfSome, List, [], ◌∷◌, ◌++◌, length, filter, refl, sym, ap, ◌∙◌, subst, inl, inr, arith}
use Rattle.fx_expr.specs.declared.values.Value.{Value}
use Rattle.fx_expr.specs.Scope.{value_at}
use Rattle.widget_model.specs.Plain.{PlainWidget, look_of}
use Rattle.plain_tree.specs.At.{is_there}
use Rattle.plain_tree.specs.PlainNode.{PlainNode, node, PlainNodes, no_nodes, more_nodes, widget_of, counts_of, count_of}
use Rattle.build_form.specs.BuildRole.{BuildRole, provides, build_role_of}
use Rattle.build_form.specs.Entering.{Blueprint, Basis, depth_limit, first, values_by, values_below, enter}
use Rattle.build_form.specs.FullBuild.{Screen, live_ranges, started, basis, full_build}
use Rattle.build_form.specs.Laws.{NumbersAre, AllNumbersAre}
use Rattle.build_form.specs.Partner.{Arrival, root_arrival, holder_in}
use Rattle.build_walk.proofs.Reentering.{long_by}
use Rattle.build_walk.proofs.Stepping.{AllOf}
use Rattle.build_walk.specs.Counting.{is_built_reader, is_built}
use Rattle.build_walk.specs.Past.{is_marked}
use Rattle.work_sets.specs.Due.{names_read, was_entered}
use Rattle.work_sets.specs.Entered.{Entered, entered_of, after, seen_from, seen_second, seen_in_both, entered_widgets}
use Rattle.work_sets.specs.Members.{is_same_widget}
use Rattle.settled_builds.specs.Places.{NodePlace, spot_at, spot_in}
use Rattle.settled_builds.specs.Regiven.{having_widget, first_having, regiven, readers_in, ReadTheirNames, CanRegive}
use Rattle.settled_builds.specs.Settled.{IsReadyTree}
use Rattle.settled_builds.specs.Steps.{Leads, IsFirstMarked, without}
use Rattle.settled_builds.specs.Taken.{AskedIf, nodes_below}
use Rattle.settled_builds.proofs.Entries.{SomeNode, SomeNodeIn, At, IsEntry, Finds, finds, HasAt, tree_has}
use Rattle.settled_builds.proofs.GoingOn.{walk, none_held, goes_on, enters_alike}
use Rattle.settled_builds.proofs.Leading.{comes, entered_once, is_component}
use Rattle.settled_builds.proofs.Less.{found_like, marked_built, IsAlike, one_less}
use Rattle.settled_builds.proofs.Once.{Other, IsAlone, AreAlone, alone, IsAt}
use Rattle.settled_builds.proofs.Others.{Calm, second_so}
use Rattle.settled_builds.proofs.Reaching.{same_spot, AlikeAt}
use Rattle.settled_builds.proofs.Refreshing.{stale_when}
use Rattle.settled_builds.proofs.Regived.{marked_two, marked_right, provides_reads, ReadsAt, reads_at, IsReader, readers_there, spot_has}
use Rattle.settled_builds.proofs.RegivenLess.{ReadIt, all_read_there, IsNear, NearOptions, near_same, near_other, all_near, near_built, reader_built, some_built}
use Rattle.settled_builds.proofs.RegivenReady.{readers, left, differ_there, below_spot, regiven_whole, regiven_ready}
use Rattle.settled_builds.proofs.Regiving.{regiven_alike, regiven_seen}
use Rattle.settled_builds.proofs.Retakes.{AsMany}
use Rattle.settled_builds.proofs.SeeingOn.{SeenAt}
use Rattle.settled_builds.proofs.Selves.{itself}
use Rattle.settled_builds.proofs.Staying.{arrives_itself}
use Rattle.settled_builds.proofs.UpTo.{ComesTo, first_is_marked}
use Rattle.settled_builds.proofs.Valued.{AreValued, valued_append, valued_others, valued_after, others_unread_in}
use Rattle.settled_builds.proofs.ValuedOn.{Valued, valued}
use Rattle.settled_builds.proofs.Values.{set_here}
use Rattle.settled_builds.proofs.Was.{WasAt, was_at}
use Rattle.settled_builds.proofs.Without.{unmarked_there, others_stay}

-- ---- numbers

-- what holds of all numbers holds of one that is there
module _ (k : ℕ) (R : PlainWidget → List Value → Type 0) (Q : ℕ → Type 0) where
  mutual
    number_so : (values : List Value) (n : PlainNode) → NumbersAre Q n → SomeNode (At k R) values n → Q k
    number_so values (node number u fs s i ns) h (inl x) = subst Q x.0 h.0
    number_so values (node number u fs s i ns) h (inr x) = all_number_so (values_below u values) ns h.1 x

    all_number_so : (values : List Value) (ns : PlainNodes) → AllNumbersAre Q ns → SomeNodeIn (At k R) values ns → Q k
    all_number_so values no_nodes h x = absurd x
    all_number_so values (more_nodes n ns) h (inl x) = number_so values n h.0 x
    all_number_so values (more_nodes n ns) h (inr x) = all_number_so values ns h.1 x

-- below a node whose number stands alone there are others
module _ (wanted : ℕ) (p : NodePlace) where
  abbrev OthersBelow : Type 0
  OthersBelow = AllNumbersAre (Other wanted) (nodes_below p.node)

  others_by : (deep : ℕ) (values : List Value) (before behind number : ℕ) (u : PlainWidget) (fs : List Value) (s i : ℕ) (ns : PlainNodes) → (AreAlone wanted ns → spot_in wanted deep (values_below u values) (suc before) behind ns ≡ Some p → OthersBelow)
      → (here : Bool) → cond here (Some (record { node = node number u fs s i ns; left = suc deep; values = values; before = before; after = behind })) (spot_in wanted deep (values_below u values) (suc before) behind ns) ≡ Some p
      → AskedIf here (AllNumbersAre (Other wanted) ns) (AreAlone wanted ns) → OthersBelow
  others_by deep values before behind number u fs s i ns step true at h =
      let q : NodePlace = record { node = node number u fs s i ns; left = suc deep; values = values; before = before; after = behind } in
      subst (λ (x : NodePlace). AllNumbersAre (Other wanted) (nodes_below x.node)) (same_spot p q at) h
  others_by deep values before behind number u fs s i ns step false at h = step h at

  others_list : (deep : ℕ) (values : List Value) (before behind : ℕ) (n : PlainNode) (ns : PlainNodes) → (IsAlone wanted n → spot_at wanted deep values before (behind + counts_of ns) n ≡ Some p → OthersBelow)
      → (AreAlone wanted ns → spot_in wanted deep values (before + count_of n) behind ns ≡ Some p → OthersBelow) → (there : Bool)
      → cond there (spot_at wanted deep values before (behind + counts_of ns) n) (spot_in wanted deep values (before + count_of n) behind ns) ≡ Some p
      → AskedIf there (IsAlone wanted n × AllNumbersAre (Other wanted) ns) (NumbersAre (Other wanted) n × AreAlone wanted ns) → OthersBelow
  others_list deep values before behind n ns one rest true at h = one h.0 at
  others_list deep values before behind n ns one rest false at h = rest h.1 at

  no_spot : None ≡ Some p → ⊥
  no_spot e = cc

  mutual
    others_below : (deep : ℕ) (values : List Value) (before behind : ℕ) (n : PlainNode) → IsAlone wanted n → spot_at wanted deep values before behind n ≡ Some p → OthersBelow
    others_below zero values before behind (node number u fs s i ns) h at = absurd (no_spot at)
    others_below (suc deep) values before behind (node number u fs s i ns) h at =
        others_by deep values before behind number u fs s i ns (λ g a. others_below_in deep (values_below u values) (suc before) behind ns g a) (eqb number wanted) at h

    others_below_in : (deep : ℕ) (values : List Value) (before behind : ℕ) (ns : PlainNodes) → AreAlone wanted ns → spot_in wanted deep values before behind ns ≡ Some p → OthersBelow
    others_below_in deep values before behind no_nodes h at = absurd (no_spot at)
    others_below_in deep values before behind (more_nodes n ns) h at =
        others_list deep values before behind n ns (λ g a. others_below deep values before (behind + counts_of ns) n g a) (λ g a. others_below_in deep values (before + count_of n) behind ns g a) (is_there wanted n) at h

under_other : (wanted : ℕ) (c : PlainNode) → NumbersAre (Other wanted) c → AllNumbersAre (Other wanted) (nodes_below c)
under_other wanted (node number u fs s i ns) h = h.1

the_names : (r : Option (List ℕ)) → is_some r ≡ true → (names : List ℕ) × (r ≡ Some names)
the_names None e = cc
the_names (Some names) e = (names, refl)

or_none : (a : Bool) → (a || false) ≡ a
or_none true = refl
or_none false = refl

module _ (equal : (v w : PlainWidget) → is_same_widget v w ≡ true → v ≡ w) (b : Blueprint) (marks : List ℕ) (wanted next : ℕ) (root : PlainWidget) (tree : PlainNode) (p : NodePlace) (ready : IsReadyTree b marks next root tree)
    (begins : IsFirstMarked b marks wanted tree p) (reads : ReadTheirNames b tree) (w : PlainWidget) (name : ℕ) (can : CanRegive b w name p) where
  abbrev now : PlainNode
  now = regiven w wanted tree

  abbrev from : Basis
  from = basis b (Some tree)

  abbrev rs : List ℕ
  rs = readers b marks next wanted w name p can

  abbrev then_marked : List ℕ
  then_marked = left b marks next wanted w name p can

  ready_now : IsReadyTree b then_marked next root now
  ready_now = regiven_ready b marks next wanted w name p can root tree ready begins reads

  many : AsMany tree now
  many = (regiven_whole b marks next wanted w name p can root tree ready begins reads).many

  comes_to : ComesTo b wanted root tree
  comes_to = comes equal b marks wanted next root tree p ready begins

  alike_at : AlikeAt equal from walk (first_having w) wanted p
  alike_at = regiven_alike equal from walk w name wanted p can

  seen_at : SeenAt equal from walk (first_having w) wanted p
  seen_at = regiven_seen equal from walk w name wanted p can

  pub full_alike : (screen : Screen) → full_build b screen (Some tree) next root ≡ full_build b screen (Some now) next root
  full_alike screen = goes_on equal b screen wanted next root tree p (first_having w) comes_to begins.at ready.keyless ready_now.keyless alike_at seen_at

  pub entered_alike : (screen : Screen) → entered_widgets b screen (Some tree) next root ≡ entered_widgets b screen (Some now) next root
  entered_alike screen = enters_alike equal b screen wanted next root tree p (first_having w) comes_to begins.at ready.keyless ready_now.keyless alike_at seen_at

  -- ---- readers

  at_reads : ReadsAt b wanted p
  at_reads = reads_at b wanted p depth_limit b.defaults 0 0 tree refl reads begins.at

  abbrev above : List Value
  above = values_below (widget_of p.node) p.values

  abbrev inside : List Value
  inside = values_below (widget_of can.child) above

  deep : length above ≡ length b.defaults
  deep = long_by (build_role_of (look_of (widget_of p.node))) p.values ∙ at_reads.long

  old_value : value_at inside name ≡ can.was
  old_value =
      ap (λ (r : BuildRole). value_at (values_by r above) name) can.was_given ∙ set_here name above can.was _ (subst (λ (x : ℕ). name < x) (sym deep) can.known)

  module _ (k : ℕ) (marked : is_marked rs k ≡ true) where
    here : SomeNode (At k (IsReader k name)) p.values p.node
    here = below_spot b marks next wanted w name p can k (IsReader k name) (readers_there k name inside (nodes_below can.child) marked)

    there : SomeNode (At k (ReadIt k name can.was)) b.defaults tree
    there =
        spot_has (At k (ReadIt k name can.was)) wanted p (below_spot b marks next wanted w name p can k (ReadIt k name can.was) (all_read_there k name can.was inside (nodes_below can.child) old_value marked))
        depth_limit b.defaults 0 0 tree begins.at

    was_read : Finds k (ReadIt k name can.was) (entered_of [] b.defaults tree)
    was_read = finds k (ReadIt k name can.was) [] b.defaults tree (alone k tree ready.numbered.differ) there

    low : k < next
    low = number_so k (ReadIt k name can.was) (λ x. x < next) b.defaults tree ready.numbered.below there

    new : (n : ℕ) → next ≤ n → Other k n
    new n high same = let l = low in omega (arith, same)

    holders : (v : Value) → IfSome (holder_in (Some tree) v) (NumbersAre (Other k))
    holders v = subst (λ (o : Option PlainNode). IfSome o (NumbersAre (Other k))) (sym (none_held tree ready.keyless v)) tt

    started_low : next ≤ next
    started_low = omega arith

    in_first : Valued equal from k next new holders w name wanted p can marked at_reads.long depth_limit [] b.defaults (itself tree) (started next)
    in_first =
        valued equal from k next new holders w name wanted p can marked at_reads.long here depth_limit [] b.defaults 0 0 tree (started next) begins.at comes_to.settled comes_to.fresh ready.keyless (alone k tree ready.numbered.differ) (tt, started_low)

    entered_valued : (screen : Screen) → AreValued k name can.now (entered_widgets b screen (Some tree) next root)
    unfolding entered_widgets seen_in_both
    entered_valued screen =
        subst (λ (t : Bool). AreValued k name can.now (cond t [] (seen_in_both from (live_ranges screen) (root_arrival (Some tree) root) (started next)))) (sym comes_to.small)
        (subst (λ (a : Arrival). AreValued k name can.now (seen_from from first depth_limit [] b.defaults a (started next) ++ after (enter from first depth_limit b.defaults a (started next)) (λ m s1. seen_second from (live_ranges screen) m s1.waiting s1)))
        (sym (arrives_itself (Some tree) root tree refl comes_to.widget comes_to.place))
        (valued_append k name can.now (seen_from from first depth_limit [] b.defaults (itself tree) (started next)) _ in_first.seen
        (valued_after k name can.now (λ m t. Calm (Other k) next new from holders t) (enter from first depth_limit b.defaults (itself tree) (started next)) _ in_first.calm
        (λ m t c. valued_others k name can.now _ (second_so (Other k) next new from holders (live_ranges screen) m t.waiting t c)))))

  -- ---- others

  module _ (k : ℕ) (unmarked : is_marked rs k ≡ false) where
    one_has : (x : Entered) (vs : List Value) (c : PlainNode) → build_role_of (look_of (widget_of c)) ≡ provides name can.was → is_marked (readers_in name (nodes_below c)) k ≡ false → SomeNodeIn (IsEntry k x) vs (more_nodes c no_nodes)
        → SomeNodeIn (At k (IsNear name x)) vs (more_nodes (having_widget w c) no_nodes)
    one_has x vs (node cn was cf cs ci cns) was_given m (inl (inl h)) =
        inl (inl (near_other k name x cn was w vs (provides_reads (look_of was) name can.was was_given) (provides_reads (look_of w) name can.now can.now_given) h))
    one_has x vs (node cn was cf cs ci cns) was_given m (inl (inr h)) =
        inl (inr (all_near k name x (values_below was vs) (values_below w vs) cns (differ_there b marks next wanted w name p can vs was was_given) m h))
    one_has x vs (node cn was cf cs ci cns) was_given m (inr h) = absurd h

    regiven_has : (x : Entered) → HasAt (IsEntry k x) (At k (IsNear name x)) (near_same k name x) (near_other k name x) wanted (first_having w) p
    regiven_has x deeper values before behind number u fields scroll index ns at within h =
        let q : NodePlace = record { node = node number u fields scroll index ns; left = suc deeper; values = values; before = before; after = behind } in
        let below : ns ≡ more_nodes can.child no_nodes = ap (λ (y : NodePlace). nodes_below y.node) (same_spot p q at) ∙ can.below in
        subst (λ ms. SomeNodeIn (At k (IsNear name x)) (values_below u values) (first_having w ms)) (sym below)
        (one_has x (values_below u values) can.child can.was_given unmarked (subst (SomeNodeIn (IsEntry k x) (values_below u values)) below h))

    near : NearOptions equal name (was_entered b.defaults (Some tree) k) (was_entered b.defaults (Some now) k)
    near =
        found_like (IsNear name) k b.defaults tree now ready_now.numbered.differ (many.times k) (λ x.
        tree_has (IsEntry k x) (At k (IsNear name x)) (near_same k name x) (near_other k name x) wanted (first_having w) p depth_limit b.defaults 0 0 tree begins.at ready.within (regiven_has x))

    same_marks : Other wanted k → is_marked marks k ≡ is_marked then_marked k
    same_marks other =
        sym (marked_two k (without wanted marks) rs ∙ ap (λ (m : Bool). is_marked (without wanted marks) k || m) unmarked ∙ or_none (is_marked (without wanted marks) k) ∙ others_stay wanted k other marks)

  -- ---- whether an entry is built

  abbrev built_before : Entered → Bool
  built_before e = is_built b.defaults (Some tree) marks e

  abbrev built_then : Entered → Bool
  built_then e = is_built b.defaults (Some now) then_marked e

  alike_by : (e : Entered) → (is_marked rs e.number ≡ true → value_at e.values name ≡ can.now) → (m : Bool) → is_marked rs e.number ≡ m → IsAlike wanted built_before built_then e
  alike_by e value true marked other =
      let x = was_read e.number marked in
      ap (λ (o : Option Entered). is_built_reader (names_read (look_of e.widget)) o marks e) x.is
      ∙ reader_built equal name (names_read (look_of e.widget)) x.entry e can.was can.now marks refl x.has.0 x.has.1 (value marked) can.other
      ∙ sym (some_built equal name (names_read (look_of e.widget)) (was_entered b.defaults (Some now) e.number) then_marked e (marked_right e.number (without wanted marks) rs marked))
  alike_by e value false unmarked other =
      near_built equal name (names_read (look_of e.widget)) (was_entered b.defaults (Some tree) e.number) (was_entered b.defaults (Some now) e.number) marks then_marked e refl (near e.number unmarked) (same_marks e.number unmarked other)

  all_alike : (es : List Entered) → ((k : ℕ) → is_marked rs k ≡ true → AreValued k name can.now es) → AllOf (IsAlike wanted built_before built_then) es
  all_alike [] h = tt
  all_alike (e ∷ es) h = (alike_by e (λ m. (h e.number m).0 refl) (is_marked rs e.number) refl, all_alike es (λ k m. (h k m).1))

  -- the component itself
  names : (ns : List ℕ) × (names_read (look_of (widget_of p.node)) ≡ Some ns)
  names = the_names (names_read (look_of (widget_of p.node))) (is_component b marks wanted next root tree p ready begins)

  wanted_unread : is_marked rs wanted ≡ false
  wanted_unread =
      let others = subst (AllNumbersAre (Other wanted)) can.below (others_below wanted p depth_limit b.defaults 0 0 tree (alone wanted tree ready.numbered.differ) begins.at) in
      by_mark (is_marked rs wanted) (λ m. others_unread_in wanted name can.now (nodes_below can.child) (under_other wanted can.child others.0) m)
    where
      by_mark : (m : Bool) → (m ≡ true → ⊥) → m ≡ false
      by_mark true h = absurd (h refl)
      by_mark false h = refl

  passes : (e : Entered) → IsAt wanted (widget_of p.node) p.values e → built_before e ≡ true
  passes e h =
      marked_built equal names.0 (names_read (look_of e.widget)) (was_entered b.defaults (Some tree) e.number) marks e (ap (λ (v : PlainWidget). names_read (look_of v)) h.1 ∙ names.1)
      (ap (is_marked marks) h.0 ∙ first_is_marked marks tree wanted begins.first)

  fails : (e : Entered) → IsAt wanted (widget_of p.node) p.values e → built_then e ≡ false
  fails e h =
      let was : WasAt wanted (entered_of [] b.defaults tree) p = was_at wanted depth_limit 0 0 [] b.defaults tree p begins.at in
      let r_is : names_read (look_of e.widget) ≡ Some names.0 = ap (λ (v : PlainWidget). names_read (look_of v)) h.1 ∙ names.1 in
      let near_it : NearOptions equal name (Some was.entry) (was_entered b.defaults (Some now) e.number) =
      subst (λ (k : ℕ). NearOptions equal name (Some was.entry) (was_entered b.defaults (Some now) k)) (sym h.0)
      (subst (λ (o : Option Entered). NearOptions equal name o (was_entered b.defaults (Some now) wanted)) was.is (near wanted wanted_unread)) in
      let unmarked : is_marked then_marked wanted ≡ false =
      marked_two wanted (without wanted marks) rs ∙ ap (λ (m : Bool). is_marked (without wanted marks) wanted || m) wanted_unread ∙ or_none (is_marked (without wanted marks) wanted) ∙ unmarked_there wanted marks in
      sym (near_built equal name (names_read (look_of e.widget)) (Some was.entry) (was_entered b.defaults (Some now) e.number) then_marked then_marked e refl near_it refl)
      ∙ ap (λ (r : Option (List ℕ)). is_built_reader r (Some was.entry) then_marked e) r_is
      ∙ stale_when wanted then_marked (Some names.0) was.entry e (h.2 ∙ sym was.values) (inl (h.1 ∙ sym was.widget))
      ∙ ap (is_marked then_marked) h.0
      ∙ unmarked

  one_more : (k : ℕ) → suc k ≡ 1 + k
  one_more k = omega arith

  pub regiven_leads : Leads b next root tree marks now then_marked 1
  regiven_leads =
      record {
        full = full_alike;
        count = λ screen.
            let es = entered_widgets b screen (Some tree) next root in
            one_less wanted built_before built_then (widget_of p.node) p.values passes fails es (all_alike es (λ k m. entered_valued k m screen)) (entered_once equal b marks wanted next root tree p ready begins screen)
            ∙ one_more (length (filter built_then es))
            ∙ ap (λ (xs : List Entered). 1 + length (filter built_then xs)) (entered_alike screen);
      }
