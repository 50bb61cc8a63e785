-- A build of a stale tree enters the stale component once.
use Rattle.std.proofs.Common.{◌≡◌, ℕ, zero, suc, ◌+◌, ◌<◌, ◌≤◌, ◌==◌, Bool, true, false, not, ◌&&◌, cond, is_some, Option, Some, None, IfSome, List, [], ◌∷◌, ◌++◌, map, refl, sym, ap, ◌∙◌, subst, ◌⊎◌, inl, inr, arith}
use Rattle.std.specs.Option.{option_or}
use Rattle.std.proofs.lemmas.Bool.{lt-leb, eqb-true, eqb-false}
use Rattle.fx_expr.specs.declared.values.Value.{Value}
use Rattle.widget_keys.specs.declared.keys.Key.{Key}
use Rattle.widget_keys.specs.declared.keys.Key.TheVariants as key
use Rattle.widget_model.specs.Plain.{PlainWidget, look_of, key_of}
use Rattle.reconcile.specs.Matching.{matching}
use Rattle.plain_tree.specs.At.{is_there, is_there_in, node_at, node_in, numbers_of, numbers_in}
use Rattle.plain_tree.specs.Laws.{DiffersFrom, AllDiffer}
use Rattle.plain_tree.specs.PlainNode.{PlainNode, node, PlainNodes, no_nodes, more_nodes, list_of, widget_of, count_of, counts_of}
use Rattle.build_form.specs.Step.{Progress, Step, gives, and_then, each}
use Rattle.build_form.specs.BuildRole.{build_role_of}
use Rattle.build_form.specs.Partner.{Arrival, arrivals, partner_of}
use Rattle.build_form.specs.Entering.{Basis, first, number_for, values_below, put_off, Opening, opening, opened, entered_below, made, enter}
use Rattle.build_form.specs.Laws.{NumbersAre, AllNumbersAre}
use Rattle.work_sets.specs.Entered.{Entered, entered, is_met, is_let_in, after, seen_by_each, seen_below, seen_from}
use Rattle.work_sets.proofs.Found.{IsIn, differ_left, differ_right, apart, differs_in, in_left, in_right}
use Rattle.build_walk.specs.Fresh.{HasOutput, HasFreshOutputs}
use Rattle.build_walk.proofs.Stepping.{Ends, ends_then, AllOf}
use Rattle.build_walk.proofs.Opened.{IsOpened, opened_ends}
use Rattle.settled_builds.specs.Places.{NodePlace, spot_at, spot_in, IsNoGlobal, HasNoGlobals, HaveNoGlobals}
use Rattle.settled_builds.specs.Settled.{IsSettledAbove, IsSettled, AreSettled, IsWithin, AreWithin, passed}
use Rattle.settled_builds.specs.Taken.{AskedIf}
use Rattle.settled_builds.proofs.Selves.{itself, selves, arrivals_are_selves, partner_is_itself}
use Rattle.settled_builds.proofs.Staying.{begun, no_list, not_put_off, opened_again, part_stays}
use Rattle.settled_builds.proofs.Keyless.{new_none, keys_none, held_none, holders_none}
use Rattle.settled_builds.proofs.Others.{AreSo, so_append, so_after, Calm, enter_calm, each_calm, good_from, good_list, so_each, seen_so}
use Rattle.settled_builds.proofs.UpTo.{IsFreshUpTo, AreFreshUpTo}

-- ---- where a number stands alone

module _ (wanted : ℕ) where
  abbrev pub Other : ℕ → Type 0
  Other k = k ≡ wanted → ⊥

  abbrev mutual
    pub IsAlone : PlainNode → Type 0
    IsAlone (node number w fields scroll index children) = AskedIf (number == wanted) (AllNumbersAre Other children) (AreAlone children)

    pub AreAlone : PlainNodes → Type 0
    AreAlone no_nodes = Unit {0}
    AreAlone (more_nodes n ns) = AskedIf (is_there wanted n) (IsAlone n × AllNumbersAre Other ns) (NumbersAre Other n × AreAlone ns)

  mutual
    from_numbers : (n : PlainNode) → ((k : ℕ) → IsIn k (numbers_of n) → Other k) → NumbersAre Other n
    from_numbers (node number w fields scroll index children) h = (h number (inl refl), all_from_numbers children (λ k i. h k (inr i)))

    all_from_numbers : (ns : PlainNodes) → ((k : ℕ) → IsIn k (numbers_in ns) → Other k) → AllNumbersAre Other ns
    all_from_numbers no_nodes h = tt
    all_from_numbers (more_nodes n ns) h =
        (from_numbers n (λ k i. h k (in_left k (numbers_of n) (numbers_in ns) i)), all_from_numbers ns (λ k i. h k (in_right k (numbers_of n) (numbers_in ns) i)))

  none_some : (b : Bool) (n : PlainNode) (o : Option PlainNode) → is_some (cond b (Some n) o) ≡ false → (b ≡ false) × (is_some o ≡ false)
  none_some true n o e = cc
  none_some false n o e = (refl, e)

  none_either : (a b : Option PlainNode) → is_some (option_or a b) ≡ false → (is_some a ≡ false) × (is_some b ≡ false)
  none_either (Some a) b e = cc
  none_either None b e = (refl, e)

  mutual
    pub not_there : (n : PlainNode) → is_there wanted n ≡ false → NumbersAre Other n
    not_there (node number w fields scroll index children) e =
        let h = none_some (number == wanted) (node number w fields scroll index children) (node_in wanted children) e in (eqb-false number wanted h.0, all_not_there children h.1)

    all_not_there : (ns : PlainNodes) → is_there_in wanted ns ≡ false → AllNumbersAre Other ns
    all_not_there no_nodes e = tt
    all_not_there (more_nodes n ns) e = let h = none_either (node_at wanted n) (node_in wanted ns) e in (not_there n h.0, all_not_there ns h.1)

  some_either : (a b : Option PlainNode) → is_some (option_or a b) ≡ true → (is_some a ≡ true) ⊎ (is_some b ≡ true)
  some_either (Some a) b e = inl refl
  some_either None b e = inr e

  there_by : (number : ℕ) (n : PlainNode) (below : Option PlainNode) (xs : List ℕ) (b : Bool) → (number == wanted) ≡ b → (is_some below ≡ true → IsIn wanted xs) → is_some (cond {A = Option PlainNode} b (Some n) below) ≡ true → IsIn wanted (number ∷ xs)
  there_by number n below xs true is step h = inl (sym (eqb-true number wanted is))
  there_by number n below xs false is step h = inr (step h)

  mutual
    pub there_in : (n : PlainNode) → is_there wanted n ≡ true → IsIn wanted (numbers_of n)
    there_in (node number w fields scroll index children) e =
        there_by number (node number w fields scroll index children) (node_in wanted children) (numbers_in children) (number == wanted) refl (λ h. all_there_in children h) e

    all_there_in : (ns : PlainNodes) → is_there_in wanted ns ≡ true → IsIn wanted (numbers_in ns)
    all_there_in no_nodes e = let wrong : false ≡ true = e in cc
    all_there_in (more_nodes n ns) e = elim (some_either (node_at wanted n) (node_in wanted ns) e) [
      | inl h ↦ in_left wanted (numbers_of n) (numbers_in ns) (there_in n h)
      | inr h ↦ in_right wanted (numbers_of n) (numbers_in ns) (all_there_in ns h)
    ]

  alone_here : (b : Bool) (number : ℕ) (children : PlainNodes) → (number == wanted) ≡ b → DiffersFrom number (numbers_in children) → AreAlone children → AskedIf b (AllNumbersAre Other children) (AreAlone children)
  alone_here true number children is d h = all_from_numbers children (λ k i e. differs_in k number (numbers_in children) d i (eqb-true number wanted is ∙ sym e))
  alone_here false number children is d h = h

  alone_by : (b : Bool) (n : PlainNode) (ns : PlainNodes) → is_there wanted n ≡ b → AllDiffer (numbers_of n ++ numbers_in ns) → IsAlone n → AreAlone ns
      → AskedIf b (IsAlone n × AllNumbersAre Other ns) (NumbersAre Other n × AreAlone ns)
  alone_by true n ns is d h k =
      (h, all_from_numbers ns (λ x i e. differs_in wanted x (numbers_of n) (apart x (numbers_of n) (numbers_in ns) d i) (there_in n is) e))
  alone_by false n ns is d h k = (not_there n is, k)

  mutual
    pub alone : (n : PlainNode) → AllDiffer (numbers_of n) → IsAlone n
    alone (node number w fields scroll index children) d = alone_here (number == wanted) number children refl d.0 (all_alone children d.1)

    all_alone : (ns : PlainNodes) → AllDiffer (numbers_in ns) → AreAlone ns
    all_alone no_nodes d = tt
    all_alone (more_nodes n ns) d =
        alone_by (is_there wanted n) n ns refl d (alone n (differ_left (numbers_of n) (numbers_in ns) d)) (all_alone ns (differ_right (numbers_of n) (numbers_in ns) d))

  -- ---- one entry

  module _ (w : PlainWidget) (values : List Value) where
    abbrev pub IsAt : Entered → Type 0
    IsAt e = (e.number ≡ wanted) × (e.widget ≡ w) × (e.values ≡ values)

    abbrev pub OnceIn : List Entered → Type 0
    OnceIn [] = ⊥
    OnceIn (e ∷ es) = (IsAt e × AreSo Other es) ⊎ (Other e.number × OnceIn es)

    pub once_later : (xs ys : List Entered) → AreSo Other xs → OnceIn ys → OnceIn (xs ++ ys)
    once_later [] ys h k = k
    once_later (x ∷ xs) ys h k = inr (h.0, once_later xs ys h.1 k)

    pub once_sooner : (xs ys : List Entered) → OnceIn xs → AreSo Other ys → OnceIn (xs ++ ys)
    once_sooner [] ys h k = absurd h
    once_sooner (x ∷ xs) ys (inl h) k = inl (h.0, so_append Other xs ys h.1 k)
    once_sooner (x ∷ xs) ys (inr h) k = inr (h.0, once_sooner xs ys h.1 k)

-- ---- the walk comes to it

module _ (from : Basis) (wanted start : ℕ) (later : (n : ℕ) → start ≤ n → n ≡ wanted → ⊥) (holders : (k : Value) → IfSome (from.holder k) (NumbersAre (Other wanted))) where
  abbrev pub P : ℕ → Type 0
  P k = Other wanted k

  abbrev pub IsCalm : Progress → Type 0
  IsCalm s = Calm P start later from holders s

  pub record Found (left : ℕ) (above : List ℕ) (values : List Value) (n : PlainNode) (s : Progress) (p : NodePlace) : Type 0 where
    pub once : OnceIn wanted (widget_of p.node) p.values (seen_from from first left above values (itself n) s)
    pub calm : Ends (λ m t. IsCalm t) (enter from first left values (itself n) s)

  pub record FoundIn (left : ℕ) (above : List ℕ) (values : List Value) (ns : PlainNodes) (s : Progress) (p : NodePlace) : Type 0 where
    pub once : OnceIn wanted (widget_of p.node) p.values (seen_by_each (enter from first left values) (seen_from from first left above values) (selves (list_of ns)) s)
    pub calm : Ends (λ ms t. IsCalm t) (each (enter from first left values) (selves (list_of ns)) s)

  -- a widget without a global key is let in where there is room
  not_met : (q : Key Value) (s : Progress) → IsNoGlobal q → is_met q s ≡ false
  not_met key.None s h = refl
  not_met (key.Local k) s h = refl
  not_met (key.Global k) s h = absurd h

  let_in : (a : Arrival) (s : Progress) → IsNoGlobal (key_of a.widget) → s.entered < from.program.nodes → is_let_in from a s ≡ true
  let_in a s keyless room =
      ap (λ (b : Bool). not b && not (is_met (key_of a.widget) s)) (lt-leb from.program.nodes s.entered room) ∙ ap (λ (b : Bool). not b) (not_met (key_of a.widget) s keyless)

  fits_here : (e c limit : ℕ) → e + suc c ≤ limit → e < limit
  fits_here e c limit h = omega arith

  fits_below : (e c limit : ℕ) → e + suc c ≤ limit → suc e + c ≤ limit
  fits_below e c limit h = omega arith

  fits_first : (e a b limit : ℕ) → e + (a + b) ≤ limit → e + a ≤ limit
  fits_first e a b limit h = omega arith

  fits_later : (e a b limit : ℕ) → e + (a + b) ≤ limit → (e + a) + b ≤ limit
  fits_later e a b limit h = omega arith

  same_spot : (p q : NodePlace) → Some q ≡ Some p → q ≡ p
  same_spot p q e = cc

  -- ---- the stale component itself

  found_here : (left : ℕ) (above : List ℕ) (values : List Value) (before behind number : ℕ) (w : PlainWidget) (fields : List Value) (scroll index : ℕ) (children : PlainNodes) (s : Progress) (p : NodePlace)
      → (number == wanted) ≡ true → Some (record { node = node number w fields scroll index children; left = suc left; values = values; before = before; after = behind }) ≡ Some p
      → IsSettledAbove w (list_of children) → IsNoGlobal (key_of w) → AllNumbersAre P children → s.entered < from.program.nodes → IsCalm s
      → Found (suc left) above values (node number w fields scroll index children) s p
  unfolding enter seen_from
  found_here left above values before behind number w fields scroll index children s p is at settled keyless others room calm =
      let n = node number w fields scroll index children in
      let a = itself n in
      let below = values_below w values in
      let partner : partner_of from.holder a ≡ Some n = partner_is_itself from.holder n (held_none from.holder (key_of w) n keyless) in
      let q : NodePlace = record { node = n; left = suc left; values = values; before = before; after = behind } in
      let rest : AreSo P (after (opened from values a s) (λ o s1. seen_below (enter from first left) (seen_from from first left (o.number ∷ above)) first values w o s1)) =
      so_after P (IsOpened from values a s) (opened from values a s) _ (opened_ends from values a s) (λ o t o_is.
      subst (λ (b : Bool). AreSo P (cond b [] (seen_by_each (enter from first left below) (seen_from from first left (o.number ∷ above) below) (arrivals o.partner o.given) t)))
      (sym (not_put_off first (build_role_of (look_of w)) w (map widget_of (list_of children)) settled.own))
      (so_each P start later from holders (enter from first left below) (seen_from from first left (o.number ∷ above) below)
      (λ b u g c. enter_calm P start later from holders first left below b u g c) (λ b u g c. seen_so P start later from holders first left (o.number ∷ above) below b u g c)
      (arrivals o.partner o.given) t (good_below o (o_is.partner ∙ partner)) (rises o t o_is))) in
      subst (Found (suc left) above values n s) (same_spot p q at)
      (record {
        once =
            subst (λ (b : Bool). OnceIn wanted w values (cond b (entered (number_for (partner_of from.holder a) s) w above values ∷ after (opened from values a s) (λ o s1. seen_below (enter from first left) (seen_from from first left (o.number ∷ above)) first values w o s1)) []))
            (sym (let_in a s keyless room))
            (inl ((ap (λ (o : Option PlainNode). number_for o s) partner ∙ eqb-true number wanted is, refl, refl), rest));
        calm =
            ends_then (IsOpened from values a s) (λ m t. IsCalm t) (opened from values a s) _ (opened_ends from values a s) (λ o t o_is.
            ends_then (λ ns u. IsCalm u) (λ m u. IsCalm u) (entered_below (enter from first left) first values w o t) _
            (subst (λ (b : Bool). Ends (λ ns u. IsCalm u) (cond b (put_off o.partner t) (each (enter from first left below) (arrivals o.partner o.given) t)))
            (sym (not_put_off first (build_role_of (look_of w)) w (map widget_of (list_of children)) settled.own))
            (each_calm P start later from holders (enter from first left below) (λ b u g c. enter_calm P start later from holders first left below b u g c) (arrivals o.partner o.given) t
            (good_below o (o_is.partner ∙ partner)) (rises o t o_is)))
            (λ ns u c. c));
      })
    where
      good_below : (o : Opening) → o.partner ≡ Some (node number w fields scroll index children) → AllOf (λ (b : Arrival). IfSome b.beside (NumbersAre P)) (arrivals o.partner o.given)
      good_below o e =
          subst (λ (x : Option PlainNode). AllOf (λ (b : Arrival). IfSome b.beside (NumbersAre P)) (arrivals x o.given)) (sym e)
          (good_from P (list_of children) 0 o.given (matching _ o.given) (good_list P children others))

      rises : (o : Opening) (t : Progress) → IsOpened from values (itself (node number w fields scroll index children)) s o t → IsCalm t
      rises o t o_is =
          let grows = o_is.grows in
          let low = calm.1 in
          (subst (AllOf (λ (x : Option PlainNode). IfSome x (NumbersAre P))) (sym o_is.waiting) calm.0, omega arith)

  -- ---- on the way to it

  found_by : (left : ℕ) (above : List ℕ) (values : List Value) (before behind number : ℕ) (w : PlainWidget) (fields : List Value) (scroll index : ℕ) (children : PlainNodes) (s : Progress) (p : NodePlace)
      → (AreFreshUpTo from.program wanted (values_below w values) children → AreAlone wanted children → spot_in wanted left (values_below w values) (suc before) behind children ≡ Some p
      → FoundIn left (number ∷ above) (values_below w values) children (begun w s) p)
      → (here : Bool) → (number == wanted) ≡ here
      → cond here (Some (record { node = node number w fields scroll index children; left = suc left; values = values; before = before; after = behind })) (spot_in wanted left (values_below w values) (suc before) behind children) ≡ Some p
      → IsSettledAbove w (list_of children)
      → AskedIf here (Unit {0})
      (HasOutput from.program (build_role_of (look_of w)) w fields values number (map widget_of (list_of children)) × AreFreshUpTo from.program wanted (values_below w values) children)
      → IsNoGlobal (key_of w) → AskedIf here (AllNumbersAre P children) (AreAlone wanted children) → s.entered < from.program.nodes → IsCalm s
      → Found (suc left) above values (node number w fields scroll index children) s p
  unfolding enter seen_from
  found_by left above values before behind number w fields scroll index children s p step true is at settled fresh keyless others room calm =
      found_here left above values before behind number w fields scroll index children s p is at settled keyless others room calm
  found_by left above values before behind number w fields scroll index children s p step false is at settled fresh keyless others room calm =
      let n = node number w fields scroll index children in
      let a = itself n in
      let ns = list_of children in
      let below = values_below w values in
      let o = opening (Some n) number fields (map widget_of ns) in
      let rest = step fresh.1 others at in
      let gone = opened_again from values number w fields scroll index children s settled fresh.0 (new_none (key_of w) s.met keyless) (held_none from.holder (key_of w) n keyless) room in
      let no_wait = not_put_off first (build_role_of (look_of w)) w (map widget_of ns) settled.own in
      let arrived = arrivals_are_selves number w fields scroll index children (no_list (build_role_of (look_of w)) w (map widget_of ns) settled.own) settled.order in
      record {
        once =
            subst (λ (b : Bool). OnceIn wanted (widget_of p.node) p.values (cond b (entered (number_for (partner_of from.holder a) s) w above values ∷ after (opened from values a s) (λ x s1. seen_below (enter from first left) (seen_from from first left (x.number ∷ above)) first values w x s1)) []))
            (sym (let_in a s keyless room))
            (inr (
              λ e. eqb-false number wanted is (sym (ap (λ (x : Option PlainNode). number_for x s) (partner_is_itself from.holder n (held_none from.holder (key_of w) n keyless))) ∙ e),
              subst (λ (r : Step Opening). OnceIn wanted (widget_of p.node) p.values (after r (λ x s1. seen_below (enter from first left) (seen_from from first left (x.number ∷ above)) first values w x s1))) (sym gone)
                  (subst (λ (b : Bool). OnceIn wanted (widget_of p.node) p.values (cond b [] (seen_by_each (enter from first left below) (seen_from from first left (number ∷ above) below) (arrivals (Some n) (map widget_of ns)) (begun w s)))) (sym no_wait)
                  (subst (λ (bs : List Arrival). OnceIn wanted (widget_of p.node) p.values (seen_by_each (enter from first left below) (seen_from from first left (number ∷ above) below) bs (begun w s))) (sym arrived) rest.once)),
            ));
        calm =
            subst (λ (r : Step Opening). Ends (λ m t. IsCalm t) (and_then r (λ x s1. and_then (entered_below (enter from first left) first values w x s1) (λ ms s2. gives (made a x ms) s2)))) (sym gone)
            (subst (λ (b : Bool). Ends (λ m t. IsCalm t) (and_then (cond {A = Step (List PlainNode)} b (put_off (Some n) (begun w s)) (each (enter from first left below) (arrivals (Some n) (map widget_of ns)) (begun w s))) (λ ms s2. gives (made a o ms) s2))) (sym no_wait)
            (subst (λ (bs : List Arrival). Ends (λ m t. IsCalm t) (and_then (each (enter from first left below) bs (begun w s)) (λ ms s2. gives (made a o ms) s2))) (sym arrived)
            (ends_then (λ ms t. IsCalm t) (λ m t. IsCalm t) (each (enter from first left below) (selves ns) (begun w s)) _ rest.calm (λ ms t c. c))));
      }

  good_selves : (ns : PlainNodes) → AllNumbersAre P ns → AllOf (λ (b : Arrival). IfSome b.beside (NumbersAre P)) (selves (list_of ns))
  good_selves no_nodes h = tt
  good_selves (more_nodes n ns) h = (h.0, good_selves ns h.1)

  in_by : (left : ℕ) (above : List ℕ) (values : List Value) (before behind : ℕ) (n : PlainNode) (ns : PlainNodes) (s : Progress) (p : NodePlace)
      → (IsFreshUpTo from.program wanted values n → IsAlone wanted n → spot_at wanted left values before (behind + counts_of ns) n ≡ Some p → Found left above values n s p)
      → (AreFreshUpTo from.program wanted values ns → AreAlone wanted ns → spot_in wanted left values (before + count_of n) behind ns ≡ Some p → FoundIn left above values ns (passed n s) p)
      → (there : Bool)
      → cond there (spot_at wanted left values before (behind + counts_of ns) n) (spot_in wanted left values (before + count_of n) behind ns) ≡ Some p
      → IsSettled n → AskedIf there (IsFreshUpTo from.program wanted values n) (HasFreshOutputs from.program [] values n × AreFreshUpTo from.program wanted values ns)
      → IsWithin left n → HasNoGlobals n → AskedIf there (IsAlone wanted n × AllNumbersAre P ns) (NumbersAre P n × AreAlone wanted ns) → s.entered + count_of n ≤ from.program.nodes → IsCalm s
      → FoundIn left above values (more_nodes n ns) s p
  in_by left above values before behind n ns s p one rest true at settled fresh within keyless others room calm =
      let go = enter from first left values in
      let seen = seen_from from first left above values in
      let h = one fresh others.0 at in
      record {
        once =
            once_sooner wanted (widget_of p.node) p.values (seen (itself n) s) _ h.once
            (so_after P (λ m t. IsCalm t) (go (itself n) s) _ h.calm
            (λ m t c. so_each P start later from holders go seen (λ b u g d. enter_calm P start later from holders first left values b u g d) (λ b u g d. seen_so P start later from holders first left above values b u g d) (selves (list_of ns)) t (good_selves ns others.1) c));
        calm =
            ends_then (λ m t. IsCalm t) (λ ms t. IsCalm t) (go (itself n) s) _ h.calm
            (λ m t c. ends_then (λ ms u. IsCalm u) (λ ms u. IsCalm u) (each go (selves (list_of ns)) t) _
            (each_calm P start later from holders go (λ b u g d. enter_calm P start later from holders first left values b u g d) (selves (list_of ns)) t (good_selves ns others.1) c) (λ ms u d. d));
      }
  in_by left above values before behind n ns s p one rest false at settled fresh within keyless others room calm =
      let go = enter from first left values in
      let seen = seen_from from first left above values in
      let h = rest fresh.1 others.1 at in
      let gone = part_stays from first left values n s settled fresh.0 within (keys_none n s.met keyless) (holders_none from.holder n keyless) room in
      record {
        once =
            once_later wanted (widget_of p.node) p.values (seen (itself n) s) _ (seen_so P start later from holders first left above values (itself n) s others.0 calm)
            (subst (λ (r : Step PlainNode). OnceIn wanted (widget_of p.node) p.values (after r (λ y s1. seen_by_each go seen (selves (list_of ns)) s1))) (sym gone) h.once);
        calm =
            subst (λ (r : Step PlainNode). Ends (λ ms t. IsCalm t) (and_then r (λ y s1. and_then (each go (selves (list_of ns)) s1) (λ ys s2. gives (y ∷ ys) s2)))) (sym gone)
            (ends_then (λ ms t. IsCalm t) (λ ms t. IsCalm t) (each go (selves (list_of ns)) (passed n s)) _ h.calm (λ ms t c. c));
      }

  mutual
    pub found : (left : ℕ) (above : List ℕ) (values : List Value) (before behind : ℕ) (n : PlainNode) (s : Progress) (p : NodePlace) → spot_at wanted left values before behind n ≡ Some p → IsSettled n → IsFreshUpTo from.program wanted values n
        → IsWithin left n → HasNoGlobals n → IsAlone wanted n → s.entered + count_of n ≤ from.program.nodes → IsCalm s → Found left above values n s p
    found zero above values before behind (node number w fields scroll index children) s p at settled fresh within keyless others room calm = absurd within
    found (suc left) above values before behind (node number w fields scroll index children) s p at settled fresh within keyless others room calm =
        found_by left above values before behind number w fields scroll index children s p
        (λ f o a. all_found left (number ∷ above) (values_below w values) (suc before) behind children (begun w s) p a settled.1 f within keyless.1 o (fits_below s.entered (counts_of children) from.program.nodes room) calm)
        (number == wanted) refl at settled.0 fresh keyless.0 others (fits_here s.entered (counts_of children) from.program.nodes room) calm

    all_found : (left : ℕ) (above : List ℕ) (values : List Value) (before behind : ℕ) (ns : PlainNodes) (s : Progress) (p : NodePlace) → spot_in wanted left values before behind ns ≡ Some p → AreSettled ns → AreFreshUpTo from.program wanted values ns
        → AreWithin left ns → HaveNoGlobals ns → AreAlone wanted ns → s.entered + counts_of ns ≤ from.program.nodes → IsCalm s → FoundIn left above values ns s p
    all_found left above values before behind no_nodes s p at settled fresh within keyless others room calm = absurd fresh
    all_found left above values before behind (more_nodes n ns) s p at settled fresh within keyless others room calm =
        in_by left above values before behind n ns s p
        (λ f o a. found left above values before (behind + counts_of ns) n s p a settled.0 f within.0 keyless.0 o (fits_first s.entered (count_of n) (counts_of ns) from.program.nodes room) calm)
        (λ f o a. all_found left above values (before + count_of n) behind ns (passed n s) p a settled.1 f within.1 keyless.1 o (fits_later s.entered (count_of n) (counts_of ns) from.program.nodes room) calm)
        (is_there wanted n) at settled.0 fresh within.0 keyless.0 others (fits_first s.entered (count_of n) (counts_of ns) from.program.nodes room) calm
