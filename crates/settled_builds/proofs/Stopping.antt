-- Where the body of the stale component gives too much, a build stops there, and has entered a beginning of what stood there by then.
use Rattle.std.proofs.Common.{◌≡◌, ℕ, zero, suc, ◌+◌, ◌<◌, ◌≤◌, ◌==◌, Bool, true, false, not, ◌&&◌, cond, Option, Some, List, [], ◌∷◌, ◌++◌, map, filter, refl, sym, ap, ◌∙◌, subst, arith}
use Rattle.std.proofs.lemmas.Bool.{lt-leb, eqb-true}
use Rattle.std.proofs.lemmas.List.{append_assoc, append-nil}
use Rattle.fx_expr.specs.declared.values.Value.{Value}
use Rattle.widget_keys.specs.declared.keys.Key.{Key}
use Rattle.widget_keys.specs.declared.keys.Key.TheVariants as key
use Rattle.widget_model.specs.Plain.{PlainWidget, look_of, key_of}
use Rattle.plain_tree.specs.At.{is_there}
use Rattle.plain_tree.specs.PlainNode.{PlainNode, node, PlainNodes, no_nodes, more_nodes, list_of, number_of, widget_of, fields_of, count_of, counts_of}
use Rattle.build_form.specs.Step.{Fault, Progress, Step, stops, gives, and_then, each, output_too_large, tree_too_large}
use Rattle.build_form.specs.BuildRole.{build_role_of}
use Rattle.build_form.specs.Partner.{Arrival, arrivals, partner_of, root_arrival}
use Rattle.build_form.specs.Entering.{Blueprint, Basis, first, depth_limit, met_once, apart, number_for, fields_for, counted, given_by, values_below, put_off, Opening, opening, opened, entered_below, made, enter}
use Rattle.build_form.specs.FullBuild.{Screen, failed, built_by, live_ranges, second_phase, started, basis, both_phases, full_build}
use Rattle.work_sets.specs.Entered.{Entered, entered, entered_of, entered_in, is_met, is_let_in, after, seen_by_each, seen_below, seen_from, seen_second, seen_in_both, entered_widgets}
use Rattle.build_walk.specs.Fresh.{HasOutput, HasFreshOutputs, HaveFreshOutputs}
use Rattle.settled_builds.specs.Places.{NodePlace, spot_at, spot_in, IsNoGlobal, HasNoGlobals, HaveNoGlobals}
use Rattle.settled_builds.specs.Settled.{IsSettledAbove, IsSettled, AreSettled, IsWithin, AreWithin, met_by, passed}
use Rattle.settled_builds.specs.Taken.{AskedIf}
use Rattle.settled_builds.proofs.Keyless.{new_none, keys_none, held_none, holders_none}
use Rattle.settled_builds.proofs.Selves.{itself, selves, arrivals_are_selves, partner_is_itself}
use Rattle.settled_builds.proofs.Staying.{begun, no_list, not_put_off, met_new, opened_again, part_stays, arrives_itself}
use Rattle.settled_builds.proofs.UpTo.{IsFreshUpTo, AreFreshUpTo, ComesTo}

-- ---- arithmetic

fits_here : (e c limit : ℕ) → e + suc c ≤ limit → e < limit
fits_here e c limit h = omega arith

fits_below : (e c limit : ℕ) → e + suc c ≤ limit → suc e + c ≤ limit
fits_below e c limit h = omega arith

fits_first : (e a b limit : ℕ) → e + (a + b) ≤ limit → e + a ≤ limit
fits_first e a b limit h = omega arith

fits_later : (e a b limit : ℕ) → e + (a + b) ≤ limit → (e + a) + b ≤ limit
fits_later e a b limit h = omega arith

fits_at_first : (c limit : ℕ) → c ≤ limit → 0 + c ≤ limit
fits_at_first c limit h = omega arith

same_spot : (p q : NodePlace) → Some q ≡ Some p → q ≡ p
same_spot p q e = cc

-- ---- a list begins with another one

abbrev pub Begins : List Entered → List Entered → Type 0
Begins es fs = (rest : List Entered) × (fs ≡ es ++ rest)

-- the last one of a list has a number

module _ (wanted : ℕ) where
  abbrev pub EndsAt : List Entered → Type 0
  EndsAt [] = ⊥
  EndsAt (e ∷ []) = e.number ≡ wanted
  EndsAt (e ∷ f ∷ es) = EndsAt (f ∷ es)

  ends_more : (e : Entered) (es : List Entered) → EndsAt es → EndsAt (e ∷ es)
  ends_more e [] h = absurd h
  ends_more e (f ∷ es) h = h

  ends_append : (xs ys : List Entered) → EndsAt ys → EndsAt (xs ++ ys)
  ends_append [] ys h = h
  ends_append (x ∷ xs) ys h = ends_more x (xs ++ ys) (ends_append xs ys h)

module _ (from : Basis) where
  not_met : (q : Key Value) (s : Progress) → IsNoGlobal q → is_met q s ≡ false
  not_met key.None s h = refl
  not_met (key.Local k) s h = refl
  not_met (key.Global k) s h = absurd h

  let_in : (n : PlainNode) (s : Progress) → IsNoGlobal (key_of (widget_of n)) → s.entered < from.program.nodes → is_let_in from (itself n) s ≡ true
  let_in n s keyless room =
      ap (λ (b : Bool). not b && not (is_met (key_of (widget_of n)) s)) (lt-leb from.program.nodes s.entered room) ∙ ap (λ (b : Bool). not b) (not_met (key_of (widget_of n)) s keyless)

  -- ---- settled nodes are entered as they stand

  seen_open : (left : ℕ) (above : List ℕ) (values : List Value) (number : ℕ) (w : PlainWidget) (fields : List Value) (scroll index : ℕ) (children : PlainNodes) (s : Progress)
      → IsSettledAbove w (list_of children) → HasOutput from.program (build_role_of (look_of w)) w fields values number (map widget_of (list_of children)) → IsNoGlobal (key_of w) → s.entered < from.program.nodes
      → seen_from from first (suc left) above values (itself (node number w fields scroll index children)) s
      ≡ entered number w above values
      ∷ seen_by_each (enter from first left (values_below w values)) (seen_from from first left (number ∷ above) (values_below w values)) (selves (list_of children)) (begun w s)
  unfolding seen_from
  seen_open left above values number w fields scroll index children s settled fresh keyless room =
      let n = node number w fields scroll index children in
      let a = itself n in
      let ns = list_of children in
      let below = values_below w values in
      ap (λ (b : Bool). cond b (entered (number_for (partner_of from.holder a) s) w above values ∷ after (opened from values a s) (λ o s1. seen_below (enter from first left) (seen_from from first left (o.number ∷ above)) first values w o s1)) [])
      (let_in n s keyless room)
      ∙ ap (λ (x : Option PlainNode). entered (number_for x s) w above values ∷ after (opened from values a s) (λ o s1. seen_below (enter from first left) (seen_from from first left (o.number ∷ above)) first values w o s1))
      (partner_is_itself from.holder n (held_none from.holder (key_of w) n keyless))
      ∙ ap (λ (r : Step Opening). entered number w above values ∷ after r (λ o s1. seen_below (enter from first left) (seen_from from first left (o.number ∷ above)) first values w o s1))
      (opened_again from values number w fields scroll index children s settled fresh (new_none (key_of w) s.met keyless) (held_none from.holder (key_of w) n keyless) room)
      ∙ ap (λ (b : Bool). entered number w above values ∷ cond b [] (seen_by_each (enter from first left below) (seen_from from first left (number ∷ above) below) (arrivals (Some n) (map widget_of ns)) (begun w s)))
      (not_put_off first (build_role_of (look_of w)) w (map widget_of ns) settled.own)
      ∙ ap (λ (bs : List Arrival). entered number w above values ∷ seen_by_each (enter from first left below) (seen_from from first left (number ∷ above) below) bs (begun w s))
      (arrivals_are_selves number w fields scroll index children (no_list (build_role_of (look_of w)) w (map widget_of ns) settled.own) settled.order)

  mutual
    seen_settled : (left : ℕ) (above : List ℕ) (values : List Value) (n : PlainNode) (s : Progress) → IsSettled n → HasFreshOutputs from.program [] values n → IsWithin left n → HasNoGlobals n
        → s.entered + count_of n ≤ from.program.nodes → seen_from from first left above values (itself n) s ≡ entered_of above values n
    seen_settled zero above values (node number w fields scroll index children) s settled fresh within keyless room = absurd within
    seen_settled (suc left) above values (node number w fields scroll index children) s settled fresh within keyless room =
        seen_open left above values number w fields scroll index children s settled.0 (fresh.0 refl) keyless.0 (fits_here s.entered (counts_of children) from.program.nodes room)
        ∙ ap (λ (es : List Entered). entered number w above values ∷ es)
        (all_seen_settled left (number ∷ above) (values_below w values) children (begun w s) settled.1 fresh.1 within keyless.1 (fits_below s.entered (counts_of children) from.program.nodes room))

    all_seen_settled : (left : ℕ) (above : List ℕ) (values : List Value) (ns : PlainNodes) (s : Progress) → AreSettled ns → HaveFreshOutputs from.program [] values ns → AreWithin left ns → HaveNoGlobals ns
        → s.entered + counts_of ns ≤ from.program.nodes → seen_by_each (enter from first left values) (seen_from from first left above values) (selves (list_of ns)) s ≡ entered_in above values ns
    all_seen_settled left above values no_nodes s settled fresh within keyless room = refl
    all_seen_settled left above values (more_nodes n ns) s settled fresh within keyless room =
        let go = enter from first left values in
        let seen = seen_from from first left above values in
        let fits = fits_first s.entered (count_of n) (counts_of ns) from.program.nodes room in
        let head = seen_settled left above values n s settled.0 fresh.0 within.0 keyless.0 fits in
        let tail = all_seen_settled left above values ns (passed n s) settled.1 fresh.1 within.1 keyless.1 (fits_later s.entered (count_of n) (counts_of ns) from.program.nodes room) in
        ap (λ (r : Step PlainNode). seen (itself n) s ++ after r (λ y s1. seen_by_each go seen (selves (list_of ns)) s1))
        (part_stays from first left values n s settled.0 fresh.0 within.0 (keys_none n s.met keyless.0) (holders_none from.holder n keyless.0) fits)
        ∙ ap (λ (es : List Entered). seen (itself n) s ++ es) tail
        ∙ ap (λ (es : List Entered). es ++ entered_in above values ns) head

-- ---- the walk stops at a spot

module _ (from : Basis) (wanted : ℕ) (p : NodePlace) (fault : Fault)
    (stop : (s : Progress) → given_by from.program (build_role_of (look_of (widget_of p.node))) p.values (number_of p.node) (fields_of p.node) (widget_of p.node) s ≡ stops fault) where
  record StopsAt (left : ℕ) (above : List ℕ) (values : List Value) (n : PlainNode) (s : Progress) : Type 0 where
    pub is : enter from first left values (itself n) s ≡ stops fault
    pub seen : Begins (seen_from from first left above values (itself n) s) (entered_of above values n)
    pub ends : EndsAt wanted (seen_from from first left above values (itself n) s)

  record AllStop (left : ℕ) (above : List ℕ) (values : List Value) (ns : PlainNodes) (s : Progress) : Type 0 where
    pub is : each (enter from first left values) (selves (list_of ns)) s ≡ stops fault
    pub seen : Begins (seen_by_each (enter from first left values) (seen_from from first left above values) (selves (list_of ns)) s) (entered_in above values ns)
    pub ends : EndsAt wanted (seen_by_each (enter from first left values) (seen_from from first left above values) (selves (list_of ns)) s)

  -- where its widget is opened
  opened_stops : (values : List Value) (number : ℕ) (w : PlainWidget) (fields : List Value) (scroll index : ℕ) (children : PlainNodes) (s : Progress) → IsNoGlobal (key_of w) → s.entered < from.program.nodes
      → ((t : Progress) → given_by from.program (build_role_of (look_of w)) values number fields w t ≡ stops fault)
      → opened from values (itself (node number w fields scroll index children)) s ≡ stops fault
  opened_stops values number w fields scroll index children s keyless room gone =
      let n = node number w fields scroll index children in
      let s1 : Progress = record { entered = s.entered; met = met_by (key_of w) s.met; next = s.next; waiting = s.waiting } in
      let part = build_role_of (look_of w) in
      let rest = λ (x : Option PlainNode) (t : Progress).
      and_then (given_by from.program part values (number_for x t) (fields_for from.program w x) w (counted x t))
      (λ (given : List PlainWidget) (s2 : Progress). and_then (apart given s2) (λ (vs : List PlainWidget) (s3 : Progress). gives (opening x (number_for x t) (fields_for from.program w x) vs) s3)) in
      ap (λ (b : Bool). cond {A = Step Opening} b (stops tree_too_large) (and_then (met_once (key_of w) s) (λ (x : Unit {0}) (t : Progress). rest (partner_of from.holder (itself n)) t)))
      (lt-leb from.program.nodes s.entered room)
      ∙ ap (λ (r : Step (Unit {0})). and_then r (λ (x : Unit {0}) (t : Progress). rest (partner_of from.holder (itself n)) t)) (met_new (key_of w) s (new_none (key_of w) s.met keyless))
      ∙ ap (λ (x : Option PlainNode). rest x s1) (partner_is_itself from.holder n (held_none from.holder (key_of w) n keyless))
      ∙ ap (λ (r : Step (List PlainWidget)). and_then r (λ (given : List PlainWidget) (s2 : Progress). and_then (apart given s2) (λ (vs : List PlainWidget) (s3 : Progress). gives (opening (Some n) number fields vs) s3)))
      (gone (counted (Some n) s1))

  stops_here : (left : ℕ) (above : List ℕ) (values : List Value) (before behind number : ℕ) (w : PlainWidget) (fields : List Value) (scroll index : ℕ) (children : PlainNodes) (s : Progress)
      → (number == wanted) ≡ true → Some (record { node = node number w fields scroll index children; left = suc left; values = values; before = before; after = behind }) ≡ Some p
      → IsNoGlobal (key_of w) → s.entered < from.program.nodes → StopsAt (suc left) above values (node number w fields scroll index children) s
  unfolding enter seen_from
  stops_here left above values before behind number w fields scroll index children s is_here at keyless room =
      let n = node number w fields scroll index children in
      let a = itself n in
      let q : NodePlace = record { node = n; left = suc left; values = values; before = before; after = behind } in
      let gone : (t : Progress) → given_by from.program (build_role_of (look_of w)) values number fields w t ≡ stops fault =
      λ t. subst (λ (x : NodePlace). given_by from.program (build_role_of (look_of (widget_of x.node))) x.values (number_of x.node) (fields_of x.node) (widget_of x.node) t ≡ stops fault) (sym (same_spot p q at)) (stop t) in
      let halt = opened_stops values number w fields scroll index children s keyless room gone in
      let one : seen_from from first (suc left) above values a s ≡ entered number w above values ∷ [] =
      ap (λ (b : Bool). cond b (entered (number_for (partner_of from.holder a) s) w above values ∷ after (opened from values a s) (λ o s1. seen_below (enter from first left) (seen_from from first left (o.number ∷ above)) first values w o s1)) [])
      (let_in from n s keyless room)
      ∙ ap (λ (x : Option PlainNode). entered (number_for x s) w above values ∷ after (opened from values a s) (λ o s1. seen_below (enter from first left) (seen_from from first left (o.number ∷ above)) first values w o s1))
      (partner_is_itself from.holder n (held_none from.holder (key_of w) n keyless))
      ∙ ap (λ (r : Step Opening). entered number w above values ∷ after r (λ o s1. seen_below (enter from first left) (seen_from from first left (o.number ∷ above)) first values w o s1)) halt in
      record {
        is = ap (λ (r : Step Opening). and_then r (λ o s1. and_then (entered_below (enter from first left) first values w o s1) (λ ms s2. gives (made a o ms) s2))) halt;
        seen = (
          entered_in (number ∷ above) (values_below w values) children,
          ap (λ (es : List Entered). es ++ entered_in (number ∷ above) (values_below w values) children) (sym one),
        );
        ends = subst (EndsAt wanted) (sym one) (eqb-true number wanted is_here);
      }

  -- ---- on the way to it

  stops_by : (left : ℕ) (above : List ℕ) (values : List Value) (before behind number : ℕ) (w : PlainWidget) (fields : List Value) (scroll index : ℕ) (children : PlainNodes) (s : Progress)
      → (AreFreshUpTo from.program wanted (values_below w values) children → spot_in wanted left (values_below w values) (suc before) behind children ≡ Some p
      → AllStop left (number ∷ above) (values_below w values) children (begun w s))
      → (here : Bool) → (number == wanted) ≡ here
      → cond here (Some (record { node = node number w fields scroll index children; left = suc left; values = values; before = before; after = behind })) (spot_in wanted left (values_below w values) (suc before) behind children) ≡ Some p
      → IsSettledAbove w (list_of children)
      → AskedIf here (Unit {0})
      (HasOutput from.program (build_role_of (look_of w)) w fields values number (map widget_of (list_of children)) × AreFreshUpTo from.program wanted (values_below w values) children)
      → IsNoGlobal (key_of w) → s.entered < from.program.nodes
      → StopsAt (suc left) above values (node number w fields scroll index children) s
  unfolding enter
  stops_by left above values before behind number w fields scroll index children s step true is_here at settled fresh keyless room =
      stops_here left above values before behind number w fields scroll index children s is_here at keyless room
  stops_by left above values before behind number w fields scroll index children s step false is_here at settled fresh keyless room =
      let n = node number w fields scroll index children in
      let ns = list_of children in
      let o = opening (Some n) number fields (map widget_of ns) in
      let part = build_role_of (look_of w) in
      let below = values_below w values in
      let rest = step fresh.1 at in
      record {
        is =
            ap (λ (r : Step Opening). and_then r (λ (q : Opening) (s1 : Progress). and_then (entered_below (enter from first left) first values w q s1) (λ (ms : List PlainNode) (s2 : Progress). gives (made (itself n) q ms) s2)))
            (opened_again from values number w fields scroll index children s settled fresh.0 (new_none (key_of w) s.met keyless) (held_none from.holder (key_of w) n keyless) room)
            ∙ ap (λ (b : Bool). and_then (cond {A = Step (List PlainNode)} b (put_off (Some n) (begun w s)) (each (enter from first left below) (arrivals (Some n) (map widget_of ns)) (begun w s))) (λ (ms : List PlainNode) (s2 : Progress). gives (made (itself n) o ms) s2))
            (not_put_off first part w (map widget_of ns) settled.own)
            ∙ ap (λ (bs : List Arrival). and_then (each (enter from first left below) bs (begun w s)) (λ (ms : List PlainNode) (s2 : Progress). gives (made (itself n) o ms) s2))
            (arrivals_are_selves number w fields scroll index children (no_list part w (map widget_of ns) settled.own) settled.order)
            ∙ ap (λ (r : Step (List PlainNode)). and_then r (λ (ms : List PlainNode) (s2 : Progress). gives (made (itself n) o ms) s2)) rest.is;
        seen = (
          rest.seen.0,
          ap (λ (es : List Entered). entered number w above values ∷ es) rest.seen.1
              ∙ ap (λ (es : List Entered). es ++ rest.seen.0) (sym (seen_open from left above values number w fields scroll index children s settled fresh.0 keyless room)),
        );
        ends =
            subst (EndsAt wanted) (sym (seen_open from left above values number w fields scroll index children s settled fresh.0 keyless room))
            (ends_more wanted (entered number w above values) (seen_by_each (enter from first left below) (seen_from from first left (number ∷ above) below) (selves ns) (begun w s)) rest.ends);
      }

  stops_in : (left : ℕ) (above : List ℕ) (values : List Value) (before behind : ℕ) (n : PlainNode) (ns : PlainNodes) (s : Progress)
      → (IsFreshUpTo from.program wanted values n → spot_at wanted left values before (behind + counts_of ns) n ≡ Some p → StopsAt left above values n s)
      → (AreFreshUpTo from.program wanted values ns → spot_in wanted left values (before + count_of n) behind ns ≡ Some p → AllStop left above values ns (passed n s))
      → (there : Bool)
      → cond there (spot_at wanted left values before (behind + counts_of ns) n) (spot_in wanted left values (before + count_of n) behind ns) ≡ Some p
      → IsSettled n → AskedIf there (IsFreshUpTo from.program wanted values n) (HasFreshOutputs from.program [] values n × AreFreshUpTo from.program wanted values ns)
      → IsWithin left n → HasNoGlobals n → s.entered + count_of n ≤ from.program.nodes → AllStop left above values (more_nodes n ns) s
  stops_in left above values before behind n ns s one rest true at settled fresh within keyless room =
      let go = enter from first left values in
      let seen = seen_from from first left above values in
      let h = one fresh at in
      record {
        is = ap (λ (r : Step PlainNode). and_then r (λ y s1. and_then (each go (selves (list_of ns)) s1) (λ ys s2. gives (y ∷ ys) s2))) h.is;
        seen = (
          h.seen.0 ++ entered_in above values ns,
          ap (λ (es : List Entered). es ++ entered_in above values ns) h.seen.1
              ∙ append_assoc (seen (itself n) s) h.seen.0 (entered_in above values ns)
              ∙ ap (λ (es : List Entered). es ++ (h.seen.0 ++ entered_in above values ns))
              (sym (append-nil (seen (itself n) s)) ∙ ap (λ (r : Step PlainNode). seen (itself n) s ++ after r (λ y s1. seen_by_each go seen (selves (list_of ns)) s1)) (sym h.is)),
        );
        ends = subst (EndsAt wanted) (sym (append-nil (seen (itself n) s)) ∙ ap (λ (r : Step PlainNode). seen (itself n) s ++ after r (λ y s1. seen_by_each go seen (selves (list_of ns)) s1)) (sym h.is)) h.ends;
      }
  stops_in left above values before behind n ns s one rest false at settled fresh within keyless room =
      let go = enter from first left values in
      let seen = seen_from from first left above values in
      let h = rest fresh.1 at in
      let gone = part_stays from first left values n s settled fresh.0 within (keys_none n s.met keyless) (holders_none from.holder n keyless) room in
      record {
        is =
            ap (λ (r : Step PlainNode). and_then r (λ y s1. and_then (each go (selves (list_of ns)) s1) (λ ys s2. gives (y ∷ ys) s2))) gone
            ∙ ap (λ (r : Step (List PlainNode)). and_then r (λ ys s2. gives (n ∷ ys) s2)) h.is;
        seen = (
          h.seen.0,
          ap (λ (es : List Entered). entered_of above values n ++ es) h.seen.1
              ∙ ap (λ (es : List Entered). es ++ (seen_by_each go seen (selves (list_of ns)) (passed n s) ++ h.seen.0)) (sym (seen_settled from left above values n s settled fresh.0 within keyless room))
              ∙ sym (append_assoc (seen (itself n) s) (seen_by_each go seen (selves (list_of ns)) (passed n s)) h.seen.0)
              ∙ ap (λ (r : Step PlainNode). (seen (itself n) s ++ after r (λ y s1. seen_by_each go seen (selves (list_of ns)) s1)) ++ h.seen.0) (sym gone),
        );
        ends =
            subst (EndsAt wanted) (ap (λ (r : Step PlainNode). seen (itself n) s ++ after r (λ y s1. seen_by_each go seen (selves (list_of ns)) s1)) (sym gone))
            (ends_append wanted (seen (itself n) s) (seen_by_each go seen (selves (list_of ns)) (passed n s)) h.ends);
      }

  mutual
    stops_at : (left : ℕ) (above : List ℕ) (values : List Value) (before behind : ℕ) (n : PlainNode) (s : Progress) → spot_at wanted left values before behind n ≡ Some p → IsSettled n → IsFreshUpTo from.program wanted values n
        → IsWithin left n → HasNoGlobals n → s.entered + count_of n ≤ from.program.nodes → StopsAt left above values n s
    stops_at zero above values before behind (node number w fields scroll index children) s at settled fresh within keyless room = absurd within
    stops_at (suc left) above values before behind (node number w fields scroll index children) s at settled fresh within keyless room =
        stops_by left above values before behind number w fields scroll index children s
        (λ f a. all_stop left (number ∷ above) (values_below w values) (suc before) behind children (begun w s) a settled.1 f within keyless.1 (fits_below s.entered (counts_of children) from.program.nodes room))
        (number == wanted) refl at settled.0 fresh keyless.0 (fits_here s.entered (counts_of children) from.program.nodes room)

    all_stop : (left : ℕ) (above : List ℕ) (values : List Value) (before behind : ℕ) (ns : PlainNodes) (s : Progress) → spot_in wanted left values before behind ns ≡ Some p → AreSettled ns → AreFreshUpTo from.program wanted values ns
        → AreWithin left ns → HaveNoGlobals ns → s.entered + counts_of ns ≤ from.program.nodes → AllStop left above values ns s
    all_stop left above values before behind no_nodes s at settled fresh within keyless room = absurd fresh
    all_stop left above values before behind (more_nodes n ns) s at settled fresh within keyless room =
        stops_in left above values before behind n ns s
        (λ f a. stops_at left above values before (behind + counts_of ns) n s a settled.0 f within.0 keyless.0 (fits_first s.entered (count_of n) (counts_of ns) from.program.nodes room))
        (λ f a. all_stop left above values (before + count_of n) behind ns (passed n s) a settled.1 f within.1 keyless.1 (fits_later s.entered (count_of n) (counts_of ns) from.program.nodes room))
        (is_there wanted n) at settled.0 fresh within.0 keyless.0 (fits_first s.entered (count_of n) (counts_of ns) from.program.nodes room)

-- ---- a whole build

none_by : (b : Bool) (x : Entered) (us vs : List Entered) → (vs ≡ [] → us ≡ []) → cond b (x ∷ vs) vs ≡ [] → cond b (x ∷ us) us ≡ []
none_by true x us vs h e = let wrong : x ∷ vs ≡ [] = e in cc
none_by false x us vs h e = h e

-- none of a beginning passes a test that none passes
pub none_in_front : (test : Entered → Bool) (es rest : List Entered) → filter test (es ++ rest) ≡ [] → filter test es ≡ []
none_in_front test [] rest e = refl
none_in_front test (x ∷ es) rest e = none_by (test x) x (filter test es) (filter test (es ++ rest)) (λ h. none_in_front test es rest h) e

module _ (b : Blueprint) (screen : Screen) (wanted next : ℕ) (root : PlainWidget) (tree : PlainNode) (p : NodePlace) (fault : Fault) (stale : ComesTo b wanted root tree)
    (at : spot_at wanted depth_limit b.defaults 0 0 tree ≡ Some p) (keyless : HasNoGlobals tree)
    (stop : (s : Progress) → given_by b (build_role_of (look_of (widget_of p.node))) p.values (number_of p.node) (fields_of p.node) (widget_of p.node) s ≡ stops fault) where
  halted : StopsAt (basis b (Some tree)) wanted p fault stop depth_limit [] b.defaults tree (started next)
  halted =
      stops_at (basis b (Some tree)) wanted p fault stop depth_limit [] b.defaults 0 0 tree (started next) at stale.settled stale.fresh stale.within keyless (fits_at_first (count_of tree) b.nodes stale.few)

  pub build_stops : full_build b screen (Some tree) next root ≡ failed fault
  unfolding full_build both_phases
  build_stops =
      let from = basis b (Some tree) in
      ap (λ (t : Bool). cond t (failed output_too_large) (built_by (both_phases from (live_ranges screen) (root_arrival (Some tree) root) (started next)))) stale.small
      ∙ ap (λ (a : Arrival). built_by (and_then (enter from first depth_limit b.defaults a (started next)) (λ (m : PlainNode) (s1 : Progress). second_phase from (live_ranges screen) m s1.waiting s1)))
      (arrives_itself (Some tree) root tree refl stale.widget stale.place)
      ∙ ap (λ (r : Step PlainNode). built_by (and_then r (λ (m : PlainNode) (s1 : Progress). second_phase from (live_ranges screen) m s1.waiting s1))) halted.is

  seen_first : entered_widgets b screen (Some tree) next root ≡ seen_from (basis b (Some tree)) first depth_limit [] b.defaults (itself tree) (started next)
  unfolding entered_widgets seen_in_both
  seen_first =
      let from = basis b (Some tree) in
      let seen = seen_from from first depth_limit [] b.defaults (itself tree) (started next) in
      ap (λ (t : Bool). cond t [] (seen_in_both from (live_ranges screen) (root_arrival (Some tree) root) (started next))) stale.small
      ∙ ap (λ (a : Arrival). seen_from from first depth_limit [] b.defaults a (started next) ++ after (enter from first depth_limit b.defaults a (started next)) (λ m s1. seen_second from (live_ranges screen) m s1.waiting s1))
      (arrives_itself (Some tree) root tree refl stale.widget stale.place)
      ∙ ap (λ (r : Step PlainNode). seen ++ after r (λ m s1. seen_second from (live_ranges screen) m s1.waiting s1)) halted.is
      ∙ append-nil seen

  pub begins : Begins (entered_widgets b screen (Some tree) next root) (entered_of [] b.defaults tree)
  begins = (halted.seen.0, halted.seen.1 ∙ ap (λ (es : List Entered). es ++ halted.seen.0) (sym seen_first))

  pub ends : EndsAt wanted (entered_widgets b screen (Some tree) next root)
  ends = subst (EndsAt wanted) (sym seen_first) halted.ends
