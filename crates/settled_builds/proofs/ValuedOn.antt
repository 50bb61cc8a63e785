-- On its way to such a reader a build comes to the Inherit as the component above it gives it.
use Rattle.std.proofs.Common.{◌≡◌, ℕ, zero, suc, ◌+◌, ◌<◌, ◌≤◌, ◌==◌, eqb, Bool, true, false, cond, Option, Some, None, IfSome, List, [], ◌∷◌, map, length, refl, sym, ap, ◌∙◌, subst, arith}
use Rattle.std.specs.Prelude.{nat_le}
use Rattle.std.proofs.lemmas.Bool.{eqb-false}
use Rattle.fx_expr.specs.declared.values.Value.{Value}
use Rattle.fx_expr.specs.Scope.{value_at}
use Rattle.widget_keys.specs.declared.keys.Key.{Key}
use Rattle.widget_model.specs.Plain.{PlainWidget, look_of, key_of}
use Rattle.widget_model.specs.Update.{updates}
use Rattle.reconcile.specs.Matching.{matching}
use Rattle.plain_tree.specs.At.{is_there}
use Rattle.plain_tree.specs.PlainNode.{PlainNode, node, PlainNodes, no_nodes, more_nodes, list_of, number_of, widget_of, fields_of, counts_of, count_of}
use Rattle.build_form.specs.BuildRole.{BuildRole, build_role_of}
use Rattle.build_form.specs.Partner.{Arrival, arrival, arrivals, widgets_had, partner_of}
use Rattle.build_form.specs.Entering.{Basis, first, met_once, unless_repeated, apart, first_repeated, number_for, fields_for, counted, given_by, values_by, values_below, waits, put_off, Opening, opening, opened, entered_below, enter}
use Rattle.build_form.specs.Laws.{NumbersAre, AllNumbersAre}
use Rattle.build_form.specs.Step.{Progress, Step, tree_too_large, gives, and_then, each}
use Rattle.build_walk.specs.Fresh.{HasOutput, HasFreshOutputs}
use Rattle.build_walk.specs.Past.{is_marked}
use Rattle.build_walk.proofs.Opened.{IsOpened, opened_ends, Stays, met_waiting}
use Rattle.build_walk.proofs.Reentering.{long_by}
use Rattle.build_walk.proofs.Stepping.{Ends, ends_then, ends_unless, AllOf}
use Rattle.work_sets.specs.Entered.{is_let_in, seen_by_each, seen_below, seen_from}
use Rattle.work_sets.specs.Members.{is_same_widget}
use Rattle.settled_builds.specs.Places.{NodePlace, spot_at, spot_in, IsNoGlobal, HasNoGlobals, HaveNoGlobals}
use Rattle.settled_builds.specs.Regiven.{readers_in, CanRegive}
use Rattle.settled_builds.specs.Settled.{AreItsOwn, IsSettled, AreSettled}
use Rattle.settled_builds.specs.Taken.{AskedIf, nodes_below}
use Rattle.settled_builds.proofs.Entries.{SomeNode, At, none_other, none_others}
use Rattle.settled_builds.proofs.Keyless.{held_none}
use Rattle.settled_builds.proofs.Once.{Other, IsAlone, AreAlone}
use Rattle.settled_builds.proofs.Others.{Calm, each_calm, enter_calm, so_each, seen_so}
use Rattle.settled_builds.proofs.Reaching.{same_spot}
use Rattle.settled_builds.proofs.Regived.{IsReader, spot_has, spot_have}
use Rattle.settled_builds.proofs.Regiving.{gives_waits, arrives_one}
use Rattle.settled_builds.proofs.Selves.{itself, selves, arrivals_are_selves, partner_is_itself}
use Rattle.settled_builds.proofs.Staying.{no_list, not_put_off, given_again}
use Rattle.settled_builds.proofs.UpTo.{IsFreshUpTo, AreFreshUpTo}
use Rattle.settled_builds.proofs.Updating.{partner_is_fellow}
use Rattle.settled_builds.proofs.Valued.{AreValued, valued_append, valued_others, valued_after, valued_when, valued_unless, IsFine, fine_list, fine_from, readers_clear, others_unread_in, each_fine, enter_fine, each_valued, seen_fine}
use Rattle.settled_builds.proofs.Values.{set_here}

module _ (equal : (a b : PlainWidget) → is_same_widget a b ≡ true → a ≡ b) (from : Basis) (k start : ℕ) (new : (n : ℕ) → start ≤ n → Other k n) (holders : (v : Value) → IfSome (from.holder v) (NumbersAre (Other k))) (w : PlainWidget) (name wanted : ℕ) (p : NodePlace) (can : CanRegive from.program w name p)
    (reader : is_marked (readers_in name (nodes_below can.child)) k ≡ true) (long : length p.values ≡ length from.program.defaults) where
  abbrev pub IsCalm : Progress → Type 0
  IsCalm s = Calm (Other k) start new from holders s

  pub record Valued (left : ℕ) (above : List ℕ) (values : List Value) (a : Arrival) (s : Progress) : Type 0 where
    pub seen : AreValued k name can.now (seen_from from first left above values a s)
    pub calm : Ends (λ m t. IsCalm t) (enter from first left values a s)

  pub record AllValued (left : ℕ) (above : List ℕ) (values : List Value) (bs : List Arrival) (s : Progress) : Type 0 where
    pub seen : AreValued k name can.now (seen_by_each (enter from first left values) (seen_from from first left above values) bs s)
    pub calm : Ends (λ ms t. IsCalm t) (each (enter from first left values) bs s)

  -- ---- a node that is opened as it stands

  module _ (number : ℕ) (u : PlainWidget) (fields : List Value) (scroll index : ℕ) (children : PlainNodes) (gs : List PlainWidget) (values : List Value) where
    abbrev it : PlainNode
    it = node number u fields scroll index children

    abbrev IsKnown : Opening → Progress → Type 0
    IsKnown o t = (o ≡ opening (Some it) number fields gs) × IsCalm t

    calm_after : (s t : Progress) → IsCalm s → Stays s t → IsCalm (counted (Some it) t)
    calm_after s t c st = (subst (AllOf (λ (o : Option PlainNode). IfSome o (NumbersAre (Other k)))) (sym st.0) c.0, subst (λ (x : ℕ). start ≤ x) (sym st.1) c.1)

    apart_known : (r : Option (Key Value)) (v : Progress) → IsCalm v → Ends IsKnown (and_then (unless_repeated r gs v) (λ (ws : List PlainWidget) (x : Progress). gives (opening (Some it) number fields ws) x))
    apart_known None v c = (refl, c)
    apart_known (Some q) v c = tt

    opened_known : (s : Progress) → IsCalm s → IsNoGlobal (key_of u) → ((t : Progress) → given_by from.program (build_role_of (look_of u)) values number fields u t ≡ gives gs t) → Ends IsKnown (opened from values (itself it) s)
    opened_known s c keyless given =
        let rest = λ (x : Option PlainNode) (t : Progress).
        and_then (given_by from.program (build_role_of (look_of u)) values (number_for x t) (fields_for from.program u x) u (counted x t))
        (λ (vs : List PlainWidget) (s2 : Progress). and_then (apart vs s2) (λ (ws : List PlainWidget) (s3 : Progress). gives (opening x (number_for x t) (fields_for from.program u x) ws) s3)) in
        ends_unless IsKnown (nat_le from.program.nodes s.entered) tree_too_large _
        (ends_then (λ (x : Unit {0}) (t : Progress). Stays s t) IsKnown (met_once (key_of u) s) _ (met_waiting (key_of u) s) (λ x t st.
        subst (λ (y : Option PlainNode). Ends IsKnown (rest y t)) (sym (partner_is_itself from.holder it (held_none from.holder (key_of u) it keyless)))
        (subst (λ (r : Step (List PlainWidget)). Ends IsKnown (and_then r (λ (vs : List PlainWidget) (s2 : Progress). and_then (apart vs s2) (λ (ws : List PlainWidget) (s3 : Progress). gives (opening (Some it) number fields ws) s3)))) (sym (given (counted (Some it) t)))
        (apart_known (first_repeated [] (map key_of gs)) (counted (Some it) t) (calm_after s t c st)))))

    valued_open : (left : ℕ) (above : List ℕ) (s : Progress) → IsCalm s → IsNoGlobal (key_of u) → Other k number → AreItsOwn (build_role_of (look_of u)) u gs
        → ((t : Progress) → given_by from.program (build_role_of (look_of u)) values number fields u t ≡ gives gs t)
        → ((t : Progress) → IsCalm t → AllValued left (number ∷ above) (values_below u values) (arrivals (Some it) gs) t) → Valued (suc left) above values (itself it) s
    unfolding enter seen_from
    valued_open left above s c keyless other own given step =
        let a = itself it in
        let partner = partner_is_itself from.holder it (held_none from.holder (key_of u) it keyless) in
        let stay = not_put_off first (build_role_of (look_of u)) u gs own in
        let known = opened_known s c keyless given in
        record {
          seen =
              valued_when k name can.now (is_let_in from a s) _ (
                λ same. absurd (other (sym (ap (λ (o : Option PlainNode). number_for o s) partner) ∙ same)),
                valued_after k name can.now IsKnown (opened from values a s) _ known (λ o t q.
                    subst (λ (x : Opening). AreValued k name can.now (seen_below (enter from first left) (seen_from from first left (x.number ∷ above)) first values u x t)) (sym q.0)
                    (subst (λ (b : Bool). AreValued k name can.now (cond b [] (seen_by_each (enter from first left (values_below u values)) (seen_from from first left (number ∷ above) (values_below u values)) (arrivals (Some it) gs) t))) (sym stay)
                    (step t q.1).seen)),
              );
          calm =
              ends_then IsKnown (λ m t. IsCalm t) (opened from values a s) _ known (λ o t q.
              ends_then (λ ns x. IsCalm x) (λ m x. IsCalm x) (entered_below (enter from first left) first values u o t) _
              (subst (λ (x : Opening). Ends (λ ns y. IsCalm y) (entered_below (enter from first left) first values u x t)) (sym q.0)
              (subst (λ (b : Bool). Ends (λ ns y. IsCalm y) (cond b (put_off (Some it) t) (each (enter from first left (values_below u values)) (arrivals (Some it) gs) t))) (sym stay) (step t q.1).calm))
              (λ ns x d. d));
        }

  -- ---- the Inherit

  pub child_valued : (left : ℕ) (above : List ℕ) (vs : List Value) (cn : ℕ) (was : PlainWidget) (cf : List Value) (cs ci : ℕ) (cns : PlainNodes) (s : Progress) → length vs ≡ length from.program.defaults → updates was w ≡ true → IsNoGlobal (key_of was)
      → Other k cn → AllOf (IsFine k name can.now) (list_of cns) → IsCalm s → Valued left above vs (arrival w 0 (Some (node cn was cf cs ci cns))) s
  unfolding enter seen_from
  child_valued zero above vs cn was cf cs ci cns s deep key keyless other fine c = record { seen = tt; calm = tt }
  child_valued (suc left) above vs cn was cf cs ci cns s deep key keyless other fine c =
      let n = node cn was cf cs ci cns in
      let a = arrival w 0 (Some n) in
      let partner : partner_of from.holder a ≡ Some n = partner_is_fellow from.holder n w 0 key (held_none from.holder (key_of was) n keyless) in
      let stay = gives_waits first (build_role_of (look_of w)) name can.now can.now_given in
      let there : value_at (values_below w vs) name ≡ can.now =
      ap (λ (r : BuildRole). value_at (values_by r vs) name) can.now_given ∙ set_here name vs can.now _ (subst (λ (x : ℕ). name < x) (sym deep) can.known) in
      let calm_then : (o : Opening) (t : Progress) → IsOpened from vs a s o t → IsCalm t =
      λ o t is. (subst (AllOf (λ (x : Option PlainNode). IfSome x (NumbersAre (Other k)))) (sym is.waiting) c.0, rises s.next t.next c.1 is.grows) in
      record {
        seen =
            valued_when k name can.now (is_let_in from a s) _ (
              λ same. absurd (other (sym (ap (λ (o : Option PlainNode). number_for o s) partner) ∙ same)),
              valued_after k name can.now (IsOpened from vs a s) (opened from vs a s) _ (opened_ends from vs a s) (λ o t is.
                  valued_unless k name can.now (waits first (build_role_of (look_of w))) _
                  (subst (λ (x : Option PlainNode). AreValued k name can.now (seen_by_each (enter from first left (values_below w vs)) (seen_from from first left (o.number ∷ above) (values_below w vs)) (arrivals x o.given) t)) (sym (is.partner ∙ partner))
                  (each_valued k name can.now start new from holders (enter from first left (values_below w vs)) (seen_from from first left (o.number ∷ above) (values_below w vs))
                  (λ b u g d. enter_fine k name can.now start new from holders left (values_below w vs) b u g d)
                  (λ b u g d. seen_fine k name can.now start new from holders left (o.number ∷ above) (values_below w vs) b u g d there)
                  (arrivals (Some n) o.given) t (fine_from k name can.now (list_of cns) 0 o.given (matching (widgets_had (Some n)) o.given) fine) (calm_then o t is)))),
            );
        calm =
            ends_then (IsOpened from vs a s) (λ m t. IsCalm t) (opened from vs a s) _ (opened_ends from vs a s) (λ o t is.
            ends_then (λ ns x. IsCalm x) (λ m x. IsCalm x) (entered_below (enter from first left) first vs w o t) _
            (subst (λ (b : Bool). Ends (λ ns y. IsCalm y) (cond b (put_off o.partner t) (each (enter from first left (values_below w vs)) (arrivals o.partner o.given) t))) (sym stay)
            (subst (λ (x : Option PlainNode). Ends (λ ns y. IsCalm y) (each (enter from first left (values_below w vs)) (arrivals x o.given) t)) (sym (is.partner ∙ partner))
            (each_fine k name can.now start new from holders (enter from first left (values_below w vs)) (λ b u g d. enter_fine k name can.now start new from holders left (values_below w vs) b u g d) (arrivals (Some n) o.given) t
            (fine_from k name can.now (list_of cns) 0 o.given (matching (widgets_had (Some n)) o.given) fine) (calm_then o t is))))
            (λ ns x d. d));
      }
    where
      rises : (x y : ℕ) → start ≤ x → x ≤ y → start ≤ y
      rises x y h g = omega arith

  one_valued : (left : ℕ) (above : List ℕ) (values : List Value) (a : Arrival) (s : Progress) → Valued left above values a s → AllValued left above values (a ∷ []) s
  one_valued left above values a s h =
      record {
        seen = valued_append k name can.now (seen_from from first left above values a s) _ h.seen (valued_after k name can.now (λ m t. IsCalm t) (enter from first left values a s) _ h.calm (λ m t c. tt));
        calm = ends_then (λ m t. IsCalm t) (λ ms t. IsCalm t) (enter from first left values a s) _ h.calm (λ m t c. c);
      }

  -- ---- the component above it

  apart_node : (b : Bool) (number : ℕ) (ns : PlainNodes) → (number == k) ≡ b → (AllNumbersAre (Other k) ns → ⊥) → AskedIf b (AllNumbersAre (Other k) ns) (AreAlone k ns) → Other k number × AreAlone k ns
  apart_node true number ns is never alone = absurd (never alone)
  apart_node false number ns is never alone = (eqb-false number k is, alone)

  apart_list : (b : Bool) (n : PlainNode) (ns : PlainNodes) → (NumbersAre (Other k) n → ⊥) → AskedIf b (IsAlone k n × AllNumbersAre (Other k) ns) (NumbersAre (Other k) n × AreAlone k ns) → IsAlone k n × AllNumbersAre (Other k) ns
  apart_list true n ns never alone = alone
  apart_list false n ns never alone = absurd (never alone.0)

  later_list : (b : Bool) (n : PlainNode) (ns : PlainNodes) → (AllNumbersAre (Other k) ns → ⊥) → AskedIf b (IsAlone k n × AllNumbersAre (Other k) ns) (NumbersAre (Other k) n × AreAlone k ns) → NumbersAre (Other k) n × AreAlone k ns
  later_list true n ns never alone = absurd (never alone.1)
  later_list false n ns never alone = alone

  valued_at : (left : ℕ) (above : List ℕ) (values : List Value) (number : ℕ) (u : PlainWidget) (fields : List Value) (scroll index : ℕ) (c : PlainNode) (s : Progress) → AreItsOwn (build_role_of (look_of u)) u (w ∷ [])
      → HasOutput from.program (build_role_of (look_of u)) u fields values number (w ∷ []) → updates (widget_of c) w ≡ true → length values ≡ length from.program.defaults → is_marked (readers_in name (nodes_below c)) k ≡ true
      → IsSettled (node number u fields scroll index (more_nodes c no_nodes)) → HasNoGlobals (node number u fields scroll index (more_nodes c no_nodes)) → IsAlone k (node number u fields scroll index (more_nodes c no_nodes)) → IsCalm s
      → Valued (suc left) above values (itself (node number u fields scroll index (more_nodes c no_nodes))) s
  valued_at left above values number u fields scroll index (node cn was cf cs ci cns) s own output key deep read settled keyless alone calm =
      let c = node cn was cf cs ci cns in
      let never : AllNumbersAre (Other k) cns → ⊥ = λ h. others_unread_in k name can.now cns h read in
      let here = apart_node (number == k) number (more_nodes c no_nodes) refl (λ h. never h.0.1) alone in
      let one = apart_list (is_there k c) c no_nodes (λ h. never h.1) here.1 in
      let under = apart_node (cn == k) cn cns refl never one.0 in
      let fine = fine_list k name can.now cns settled.1.0.1 (readers_clear k name can.now cns under.1 read) in
      valued_open number u fields scroll index (more_nodes c no_nodes) (w ∷ []) values left above s calm keyless.0 here.0 own (λ t. given_again from.program (build_role_of (look_of u)) values number fields u t (w ∷ []) own output) (λ t d.
      subst (λ (bs : List Arrival). AllValued left (number ∷ above) (values_below u values) bs t)
      (sym (arrives_one equal from first w name wanted p can number u fields scroll index c (no_list (build_role_of (look_of u)) u (w ∷ []) own) key settled.0.order.0))
      (one_valued left (number ∷ above) (values_below u values) (arrival w 0 (Some c)) t
      (child_valued left (number ∷ above) (values_below u values) cn was cf cs ci cns t (long_by (build_role_of (look_of u)) values ∙ deep) key keyless.1.0.0 under.0 fine d)))

  valued_here : (left : ℕ) (above : List ℕ) (values : List Value) (before behind number : ℕ) (u : PlainWidget) (fields : List Value) (scroll index : ℕ) (children : PlainNodes) (s : Progress)
      → Some (record { node = node number u fields scroll index children; left = suc left; values = values; before = before; after = behind }) ≡ Some p
      → IsSettled (node number u fields scroll index children) → HasNoGlobals (node number u fields scroll index children) → IsAlone k (node number u fields scroll index children) → IsCalm s
      → Valued (suc left) above values (itself (node number u fields scroll index children)) s
  valued_here left above values before behind number u fields scroll index children s at settled keyless alone calm =
      let q : NodePlace = record { node = node number u fields scroll index children; left = suc left; values = values; before = before; after = behind } in
      let is : q ≡ p = same_spot p q at in
      let below : children ≡ more_nodes can.child no_nodes = ap (λ (x : NodePlace). nodes_below x.node) is ∙ can.below in
      let own : AreItsOwn (build_role_of (look_of u)) u (w ∷ []) = subst (λ (x : NodePlace). AreItsOwn (build_role_of (look_of (widget_of x.node))) (widget_of x.node) (w ∷ [])) (sym is) can.given.own in
      let output : HasOutput from.program (build_role_of (look_of u)) u fields values number (w ∷ []) =
      subst (λ (x : NodePlace). HasOutput from.program (build_role_of (look_of (widget_of x.node))) (widget_of x.node) (fields_of x.node) x.values (number_of x.node) (w ∷ [])) (sym is) can.given.output in
      let deep : length values ≡ length from.program.defaults = subst (λ (x : NodePlace). length x.values ≡ length from.program.defaults) (sym is) long in
      subst (λ (ns : PlainNodes). Valued (suc left) above values (itself (node number u fields scroll index ns)) s) (sym below)
      (valued_at left above values number u fields scroll index can.child s own output can.key deep reader (subst (λ (ns : PlainNodes). IsSettled (node number u fields scroll index ns)) below settled)
      (subst (λ (ns : PlainNodes). HasNoGlobals (node number u fields scroll index ns)) below keyless) (subst (λ (ns : PlainNodes). IsAlone k (node number u fields scroll index ns)) below alone) calm)

  -- ---- on the way to it

  module _ (here : SomeNode (At k (IsReader k name)) p.values p.node) where
    on_way : (left : ℕ) (above : List ℕ) (values : List Value) (before behind number : ℕ) (u : PlainWidget) (fields : List Value) (scroll index : ℕ) (children : PlainNodes) (s : Progress)
        → (AreFreshUpTo from.program wanted (values_below u values) children → AreAlone k children → spot_in wanted left (values_below u values) (suc before) behind children ≡ Some p → (t : Progress) → IsCalm t
        → AllValued left (number ∷ above) (values_below u values) (selves (list_of children)) t)
        → (b : Bool) → cond b (Some (record { node = node number u fields scroll index children; left = suc left; values = values; before = before; after = behind })) (spot_in wanted left (values_below u values) (suc before) behind children) ≡ Some p
        → IsSettled (node number u fields scroll index children)
        → AskedIf b (Unit {0}) (HasOutput from.program (build_role_of (look_of u)) u fields values number (map widget_of (list_of children)) × AreFreshUpTo from.program wanted (values_below u values) children)
        → HasNoGlobals (node number u fields scroll index children) → IsAlone k (node number u fields scroll index children) → IsCalm s → Valued (suc left) above values (itself (node number u fields scroll index children)) s
    on_way left above values before behind number u fields scroll index children s step true at settled fresh keyless alone calm =
        valued_here left above values before behind number u fields scroll index children s at settled keyless alone calm
    on_way left above values before behind number u fields scroll index children s step false at settled fresh keyless alone calm =
        let there = spot_have (At k (IsReader k name)) wanted p here left (values_below u values) (suc before) behind children at in
        let facts = apart_node (number == k) number children refl (λ h. none_others k (IsReader k name) (values_below u values) children h there) alone in
        let gs = map widget_of (list_of children) in
        let own = settled.0.own in
        valued_open number u fields scroll index children gs values left above s calm keyless.0 facts.0 own (λ t. given_again from.program (build_role_of (look_of u)) values number fields u t gs own fresh.0) (λ t c.
        subst (λ (bs : List Arrival). AllValued left (number ∷ above) (values_below u values) bs t) (sym (arrivals_are_selves number u fields scroll index children (no_list (build_role_of (look_of u)) u gs own) settled.0.order))
        (step fresh.1 facts.1 at t c))

    good_selves : (ns : PlainNodes) → AllNumbersAre (Other k) ns → AllOf (λ (b : Arrival). IfSome b.beside (NumbersAre (Other k))) (selves (list_of ns))
    good_selves no_nodes h = tt
    good_selves (more_nodes n ns) h = (h.0, good_selves ns h.1)

    in_list : (left : ℕ) (above : List ℕ) (values : List Value) (before behind : ℕ) (n : PlainNode) (ns : PlainNodes) (s : Progress)
        → (IsFreshUpTo from.program wanted values n → IsAlone k n → spot_at wanted left values before (behind + counts_of ns) n ≡ Some p → Valued left above values (itself n) s)
        → (AreFreshUpTo from.program wanted values ns → AreAlone k ns → spot_in wanted left values (before + count_of n) behind ns ≡ Some p → (t : Progress) → IsCalm t → AllValued left above values (selves (list_of ns)) t)
        → (b : Bool) → cond b (spot_at wanted left values before (behind + counts_of ns) n) (spot_in wanted left values (before + count_of n) behind ns) ≡ Some p
        → AskedIf b (IsFreshUpTo from.program wanted values n) (HasFreshOutputs from.program [] values n × AreFreshUpTo from.program wanted values ns)
        → AreAlone k (more_nodes n ns) → IsCalm s → AllValued left above values (selves (list_of (more_nodes n ns))) s
    in_list left above values before behind n ns s one rest true at fresh alone calm =
        let go = enter from first left values in
        let seen = seen_from from first left above values in
        let there = spot_has (At k (IsReader k name)) wanted p here left values before (behind + counts_of ns) n at in
        let facts = apart_list (is_there k n) n ns (λ h. none_other k (IsReader k name) values n h there) alone in
        let h = one fresh facts.0 at in
        record {
          seen =
              valued_append k name can.now (seen (itself n) s) _ h.seen
              (valued_after k name can.now (λ m t. IsCalm t) (go (itself n) s) _ h.calm (λ m t c.
              valued_others k name can.now _
              (so_each (Other k) start new from holders go seen (λ b x g d. enter_calm (Other k) start new from holders first left values b x g d) (λ b x g d. seen_so (Other k) start new from holders first left above values b x g d)
              (selves (list_of ns)) t (good_selves ns facts.1) c)));
          calm =
              ends_then (λ m t. IsCalm t) (λ ms t. IsCalm t) (go (itself n) s) _ h.calm
              (λ m t c. ends_then (λ ms x. IsCalm x) (λ ms x. IsCalm x) (each go (selves (list_of ns)) t) _
              (each_calm (Other k) start new from holders go (λ b x g d. enter_calm (Other k) start new from holders first left values b x g d) (selves (list_of ns)) t (good_selves ns facts.1) c) (λ ms x d. d));
        }
    in_list left above values before behind n ns s one rest false at fresh alone calm =
        let go = enter from first left values in
        let seen = seen_from from first left above values in
        let there = spot_have (At k (IsReader k name)) wanted p here left values (before + count_of n) behind ns at in
        let facts = later_list (is_there k n) n ns (λ h. none_others k (IsReader k name) values ns h there) alone in
        let first_calm = enter_calm (Other k) start new from holders first left values (itself n) s facts.0 calm in
        record {
          seen =
              valued_append k name can.now (seen (itself n) s) _ (valued_others k name can.now (seen (itself n) s) (seen_so (Other k) start new from holders first left above values (itself n) s facts.0 calm))
              (valued_after k name can.now (λ m t. IsCalm t) (go (itself n) s) _ first_calm (λ m t c. (rest fresh.1 facts.1 at t c).seen));
          calm =
              ends_then (λ m t. IsCalm t) (λ ms t. IsCalm t) (go (itself n) s) _ first_calm
              (λ m t c. ends_then (λ ms x. IsCalm x) (λ ms x. IsCalm x) (each go (selves (list_of ns)) t) _ (rest fresh.1 facts.1 at t c).calm (λ ms x d. d));
        }

    no_spot : None ≡ Some p → ⊥
    no_spot e = cc

    mutual
      pub valued : (left : ℕ) (above : List ℕ) (values : List Value) (before behind : ℕ) (n : PlainNode) (s : Progress) → spot_at wanted left values before behind n ≡ Some p → IsSettled n → IsFreshUpTo from.program wanted values n
          → HasNoGlobals n → IsAlone k n → IsCalm s → Valued left above values (itself n) s
      valued zero above values before behind (node number u fields scroll index children) s at settled fresh keyless alone calm = absurd (no_spot at)
      valued (suc left) above values before behind (node number u fields scroll index children) s at settled fresh keyless alone calm =
          on_way left above values before behind number u fields scroll index children s
          (λ f a there t c. all_valued left (number ∷ above) (values_below u values) (suc before) behind children t there settled.1 f keyless.1 a c) (eqb number wanted) at settled fresh keyless alone calm

      all_valued : (left : ℕ) (above : List ℕ) (values : List Value) (before behind : ℕ) (ns : PlainNodes) (s : Progress) → spot_in wanted left values before behind ns ≡ Some p → AreSettled ns → AreFreshUpTo from.program wanted values ns
          → HaveNoGlobals ns → AreAlone k ns → IsCalm s → AllValued left above values (selves (list_of ns)) s
      all_valued left above values before behind no_nodes s at settled fresh keyless alone calm = absurd fresh
      all_valued left above values before behind (more_nodes n ns) s at settled fresh keyless alone calm =
          in_list left above values before behind n ns s (λ f a there. valued left above values before (behind + counts_of ns) n s there settled.0 f keyless.0 a calm)
          (λ f a there t c. all_valued left above values (before + count_of n) behind ns t there settled.1 f keyless.1 a c) (is_there wanted n) at fresh alone calm
