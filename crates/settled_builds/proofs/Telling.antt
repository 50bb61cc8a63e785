-- Of the looks and orders that are gathered where children take widgets, those of a number are the ones of the child that has the number.
use Rattle.std.proofs.Common.{◌≡◌, ℕ, zero, suc, ◌==◌, Bool, true, false, not, cond, is_some, Option, Some, None, option_map, List, [], ◌∷◌, ◌++◌, map, refl, sym, ap, ◌∙◌, subst, inl, inr, arith}
use Rattle.std.specs.Prelude.{slice_get}
use Rattle.std.specs.List.{find}
use Rattle.std.specs.Option.{option_or}
use Rattle.std.proofs.lemmas.Bool.{ne_eqb, and_parts}
use Rattle.std.proofs.lemmas.List.Folds.{find-append}
use Rattle.std.proofs.lemmas.Option.{slice_get-map}
use Rattle.widget_model.specs.Plain.{PlainWidget, look_of, key_of}
use Rattle.widget_model.specs.Plain.{children_of as child_widgets}
use Rattle.work_sets.specs.Members.{is_same_widget}
use Rattle.work_sets.proofs.Found.{IsIn, in_left, in_right, differ_left, differ_right, apart, differs_in}
use Rattle.reconcile.specs.Keys.{NoKeyRepeats}
use Rattle.reconcile.specs.Matching.{matching}
use Rattle.reconcile.proofs.LawLemmas.{matched_once}
use Rattle.plain_tree.specs.At.{numbers_of, numbers_in}
use Rattle.plain_tree.specs.Laws.{AllDiffer, VanishAlone, AllVanishAlone}
use Rattle.plain_tree.specs.PlainNode.{PlainNode, node, PlainNodes, no_nodes, more_nodes, list_of, widget_of}
use Rattle.build_form.specs.Entering.{first_repeated}
use Rattle.build_form.proofs.Apart.{none_repeats}
use Rattle.settled_builds.specs.Looks.{NewLook, new_look}
use Rattle.settled_builds.specs.Rearranged.{NewOrder, TellsNothing, looks_retaken, each_looks, orders_retaken, each_order, are_retaken_drawn, each_drawn}
use Rattle.settled_builds.specs.Settled.{AreComponents, AllAreComponents}
use Rattle.settled_builds.specs.Retaken.{gathered_by, gathered_at, gathered, asked_by, all_asked, are_apart}

-- ---- children by their places

pub child_is : (c d : PlainNode) → Some c ≡ Some d → c ≡ d
child_is c d e = cc

pub in_child : (k j : ℕ) (ns : PlainNodes) (c : PlainNode) → slice_get (list_of ns) j ≡ Some c → IsIn k (numbers_of c) → IsIn k (numbers_in ns)
in_child k j no_nodes c at h = absurd (cc)
in_child k zero (more_nodes n ns) c at h = in_left k (numbers_of n) (numbers_in ns) (subst (λ m. IsIn k (numbers_of m)) (sym (child_is n c at)) h)
in_child k (suc j) (more_nodes n ns) c at h = in_right k (numbers_of n) (numbers_in ns) (in_child k j ns c at h)

pub not_in_both : (k : ℕ) (n : PlainNode) (ns : PlainNodes) → AllDiffer (numbers_of n ++ numbers_in ns) → IsIn k (numbers_of n) → IsIn k (numbers_in ns) → ⊥
not_in_both k n ns differ one rest = differs_in k k (numbers_of n) (apart k (numbers_of n) (numbers_in ns) differ rest) one refl

-- no number is one of two children
pub apart_children : (k i j : ℕ) (ns : PlainNodes) (c d : PlainNode) → AllDiffer (numbers_in ns) → slice_get (list_of ns) i ≡ Some c → slice_get (list_of ns) j ≡ Some d → IsIn k (numbers_of c) → IsIn k (numbers_of d) → i ≡ j
apart_children k i j no_nodes c d differ one other x y = absurd (cc)
apart_children k zero zero (more_nodes n ns) c d differ one other x y = refl
apart_children k zero (suc j) (more_nodes n ns) c d differ one other x y =
    absurd (not_in_both k n ns differ (subst (λ m. IsIn k (numbers_of m)) (sym (child_is n c one)) x) (in_child k j ns d other y))
apart_children k (suc i) zero (more_nodes n ns) c d differ one other x y =
    absurd (not_in_both k n ns differ (subst (λ m. IsIn k (numbers_of m)) (sym (child_is n d other)) y) (in_child k i ns c one x))
apart_children k (suc i) (suc j) (more_nodes n ns) c d differ one other x y =
    ap suc (apart_children k i j ns c d (differ_right (numbers_of n) (numbers_in ns) differ) one other x y)

pub alone_at : (ns : PlainNodes) → AllVanishAlone ns → (j : ℕ) (c : PlainNode) → slice_get (list_of ns) j ≡ Some c → VanishAlone c
alone_at no_nodes h j c at = absurd (cc)
alone_at (more_nodes n ns) h zero c at = subst VanishAlone (child_is n c at) h.0
alone_at (more_nodes n ns) h (suc j) c at = alone_at ns h.1 j c at

pub differ_at : (ns : PlainNodes) → AllDiffer (numbers_in ns) → (j : ℕ) (c : PlainNode) → slice_get (list_of ns) j ≡ Some c → AllDiffer (numbers_of c)
differ_at no_nodes h j c at = absurd (cc)
differ_at (more_nodes n ns) h zero c at = subst (λ m. AllDiffer (numbers_of m)) (child_is n c at) (differ_left (numbers_of n) (numbers_in ns) h)
differ_at (more_nodes n ns) h (suc j) c at = differ_at ns (differ_right (numbers_of n) (numbers_in ns) h) j c at

pub component_at : (marks : List ℕ) (ns : PlainNodes) → AllAreComponents marks ns → (j : ℕ) (c : PlainNode) → slice_get (list_of ns) j ≡ Some c → AreComponents marks c
component_at marks no_nodes h j c at = absurd (cc)
component_at marks (more_nodes n ns) h zero c at = subst (AreComponents marks) (child_is n c at) h.0
component_at marks (more_nodes n ns) h (suc j) c at = component_at marks ns h.1 j c at

-- what is said of each child is said of the one at a place
pub child_at : {B : Type 0} (f : PlainNode → B) (xs : List B) (ns : List PlainNode) (j : ℕ) (o : Option PlainNode) → xs ≡ map f ns → slice_get ns j ≡ o → slice_get xs j ≡ option_map f o
child_at f xs ns j o is at = ap (λ ys. slice_get ys j) is ∙ slice_get-map f ns j ∙ ap (option_map f) at

pub each_looks_is : (ns : PlainNodes) → each_looks ns ≡ map (λ n w place. looks_retaken n w) (list_of ns)
each_looks_is no_nodes = refl
each_looks_is (more_nodes n ns) = ap (λ ts. (λ w place. looks_retaken n w) ∷ ts) (each_looks_is ns)

pub each_order_is : (ns : PlainNodes) → each_order ns ≡ map (λ n w place. orders_retaken n w) (list_of ns)
each_order_is no_nodes = refl
each_order_is (more_nodes n ns) = ap (λ ts. (λ w place. orders_retaken n w) ∷ ts) (each_order_is ns)

pub each_drawn_is : (ns : PlainNodes) → each_drawn ns ≡ map are_retaken_drawn (list_of ns)
each_drawn_is no_nodes = refl
each_drawn_is (more_nodes n ns) = ap (λ ts. are_retaken_drawn n ∷ ts) (each_drawn_is ns)

-- where it is asked of widgets, it is asked of the one at a place
pub asked_there : (cans : List (PlainWidget → Bool)) (ws : List PlainWidget) (ms : List (Option ℕ)) (i j : ℕ) (w : PlainWidget) → all_asked cans ws ms ≡ true → slice_get ws i ≡ Some w → slice_get ms i ≡ Some (Some j)
    → asked_by (slice_get cans j) w ≡ true
asked_there cans [] ms i j w can at from = absurd (cc)
asked_there cans (v ∷ ws) [] i j w can at from = absurd (cc)
asked_there cans (v ∷ ws) (None ∷ ms) i j w can at from = absurd (cc)
asked_there cans (v ∷ ws) (Some h ∷ ms) zero j w can at from =
    let parts = and_parts (asked_by (slice_get cans h) v) (all_asked cans ws ms) can in
    (λ x. asked_by (slice_get cans (place_is x)) (widget_is x)) ∙ parts.0
  where
    place_is : j ≡ h
    place_is = cc

    widget_is : w ≡ v
    widget_is = cc
asked_there cans (v ∷ ws) (Some h ∷ ms) (suc i) j w can at from =
    asked_there cans ws ms i j w (and_parts (asked_by (slice_get cans h) v) (all_asked cans ws ms) can).1 at from

-- each child is taken once
none_twice : {K : Type 0} (r : Option K) → not (is_some r) ≡ true → r ≡ None
none_twice None e = refl
none_twice (Some k) e = cc

pub taken_once : (olds ws : List PlainWidget) → are_apart ws ≡ true → (h i j : ℕ) → slice_get (matching olds ws) h ≡ Some (Some j) → slice_get (matching olds ws) i ≡ Some (Some j) → h ≡ i
taken_once olds ws apart_ws h i j e f =
    let differ : NoKeyRepeats ws = none_repeats ws (none_twice (first_repeated [] (map key_of ws)) apart_ws) in matched_once olds ws differ h i j e f

-- ---- what is told of a number

module _ {A : Type 0} (num : A → ℕ) (k : ℕ) where
  abbrev pub told : List A → Option A
  told xs = find (λ x. num x == k) xs

  or_none : (o : Option A) → option_or o None ≡ o
  or_none None = refl
  or_none (Some x) = refl

  told_after : (xs ys : List A) → told (xs ++ ys) ≡ option_or (told xs) (told ys)
  told_after xs ys = find-append (λ x. num x == k) xs ys

  pub told_later : (x : A) (xs : List A) → (num x ≡ k → ⊥) → told (x ∷ xs) ≡ told xs
  told_later x xs other = ap (λ (b : Bool). cond {A = Option A} b (Some x) (told xs)) (ne_eqb (num x) k other)

  none_when : (same : Bool) (x : A) (xs : List A) → (num x ≡ k → ⊥) → told xs ≡ None → told (cond same [] (x ∷ xs)) ≡ None
  none_when true x xs other h = refl
  none_when false x xs other h = told_later x xs other ∙ h

  module _ (takes : List (PlainWidget → ℕ → List A)) where
    -- nothing, where none of them tells anything of it
    pub none_gathered : ((j : ℕ) (w : PlainWidget) (place : ℕ) → told (gathered_by (slice_get takes j) w place) ≡ None) → (place : ℕ) (ws : List PlainWidget) (ms : List (Option ℕ)) → told (gathered takes place ws ms) ≡ None
    none_gathered h place [] ms = refl
    none_gathered h place (w ∷ ws) [] = refl
    none_gathered h place (w ∷ ws) (None ∷ ms) = none_gathered h (suc place) ws ms
    none_gathered h place (w ∷ ws) (Some j ∷ ms) =
        told_after (gathered_by (slice_get takes j) w place) (gathered takes (suc place) ws ms)
        ∙ ap (λ (o : Option A). option_or o (told (gathered takes (suc place) ws ms))) (h j w place) ∙ none_gathered h (suc place) ws ms

    -- so it is where it is so of each that is asked
    pub none_asked : (cans : List (PlainWidget → Bool)) → ((j : ℕ) (w : PlainWidget) (place : ℕ) → asked_by (slice_get cans j) w ≡ true → told (gathered_by (slice_get takes j) w place) ≡ None)
        → (place : ℕ) (ws : List PlainWidget) (ms : List (Option ℕ)) → all_asked cans ws ms ≡ true → told (gathered takes place ws ms) ≡ None
    none_asked cans h place [] ms can = refl
    none_asked cans h place (w ∷ ws) [] can = refl
    none_asked cans h place (w ∷ ws) (None ∷ ms) can = absurd (cc)
    none_asked cans h place (w ∷ ws) (Some j ∷ ms) can =
        let parts = and_parts (asked_by (slice_get cans j) w) (all_asked cans ws ms) can in
        told_after (gathered_by (slice_get takes j) w place) (gathered takes (suc place) ws ms)
        ∙ ap (λ (o : Option A). option_or o (told (gathered takes (suc place) ws ms))) (h j w place parts.0) ∙ none_asked cans h (suc place) ws ms parts.1

    -- what one of them tells, where no other does and it is asked once
    module _ (j : ℕ) (lone : (i : ℕ) (w : PlainWidget) (place : ℕ) → (i ≡ j → ⊥) → told (gathered_by (slice_get takes i) w place) ≡ None) where
      none_at : (m : Option ℕ) (w : PlainWidget) (place : ℕ) → (m ≡ Some j → ⊥) → told (gathered_at takes m w place) ≡ None
      none_at None w place other = refl
      none_at (Some i) w place other = lone i w place (λ e. other (ap (λ (x : ℕ). Some x) e))

      none_left : (place : ℕ) (ws : List PlainWidget) (ms : List (Option ℕ)) → ((h : ℕ) → slice_get ms h ≡ Some (Some j) → ⊥) → told (gathered takes place ws ms) ≡ None
      none_left place [] ms other = refl
      none_left place (w ∷ ws) [] other = refl
      none_left place (w ∷ ws) (m ∷ ms) other =
          told_after (gathered_at takes m w place) (gathered takes (suc place) ws ms)
          ∙ ap (λ (o : Option A). option_or o (told (gathered takes (suc place) ws ms))) (none_at m w place (λ e. other 0 (ap (λ (x : Option ℕ). Some x) e)))
          ∙ none_left (suc place) ws ms (λ h e. other (suc h) e)

      pub one_gathered : (w : PlainWidget) (o : Option A) → ((place : ℕ) → told (gathered_by (slice_get takes j) w place) ≡ o) → (place : ℕ) (ws : List PlainWidget) (ms : List (Option ℕ)) (i : ℕ)
          → slice_get ws i ≡ Some w → slice_get ms i ≡ Some (Some j) → ((h : ℕ) → slice_get ms h ≡ Some (Some j) → h ≡ i) → told (gathered takes place ws ms) ≡ o
      one_gathered w o is place [] ms i at from once = absurd (cc)
      one_gathered w o is place (v ∷ ws) [] i at from once = absurd (cc)
      one_gathered w o is place (v ∷ ws) (m ∷ ms) zero at from once =
          let head : told (gathered_at takes m v place) ≡ o = (λ x. told (gathered_at takes (match_is x) (widget_is x) place)) ∙ is place in
          let rest : told (gathered takes (suc place) ws ms) ≡ None = none_left (suc place) ws ms (λ h e. (let no : suc h ≡ 0 = once (suc h) e in absurd (omega arith))) in
          told_after (gathered_at takes m v place) (gathered takes (suc place) ws ms) ∙ (λ x. option_or (head x) (rest x)) ∙ or_none o
        where
          match_is : m ≡ Some j
          match_is = cc

          widget_is : v ≡ w
          widget_is = cc
      one_gathered w o is place (v ∷ ws) (m ∷ ms) (suc i) at from once =
          let head : told (gathered_at takes m v place) ≡ None = none_at m v place (λ e. (let no : 0 ≡ suc i = once 0 (ap (λ (x : Option ℕ). Some x) e) in absurd (omega arith))) in
          let rest : told (gathered takes (suc place) ws ms) ≡ o = one_gathered w o is (suc place) ws ms i at from (λ h e. (let same : suc h ≡ suc i = once (suc h) e in omega arith)) in
          told_after (gathered_at takes m v place) (gathered takes (suc place) ws ms) ∙ (λ x. option_or (head x) (rest x))

-- of each child something is told, of the numbers of that child alone
module _ {A : Type 0} (num : A → ℕ) (k : ℕ) (take : PlainNode → PlainWidget → List A) (each : List (PlainWidget → ℕ → List A)) (ns : PlainNodes) where
  pub told_of_child : each ≡ map (λ n w place. take n w) (list_of ns) → ((n : PlainNode) (w : PlainWidget) → (IsIn k (numbers_of n) → ⊥) → told num k (take n w) ≡ None)
      → AllDiffer (numbers_in ns) → (j : ℕ) (c : PlainNode) (w : PlainWidget) → slice_get (list_of ns) j ≡ Some c → IsIn k (numbers_of c)
      → (ws : List PlainWidget) (ms : List (Option ℕ)) (i : ℕ) → slice_get ws i ≡ Some w → slice_get ms i ≡ Some (Some j) → ((h : ℕ) → slice_get ms h ≡ Some (Some j) → h ≡ i)
      → told num k (gathered each 0 ws ms) ≡ told num k (take c w)
  told_of_child is none differ j c w at there ws ms i here from once =
      one_gathered num k each j lone w (told num k (take c w))
      (λ place. ap (λ (o : Option (PlainWidget → ℕ → List A)). told num k (gathered_by o w place)) (child_at (λ n v p. take n v) each (list_of ns) j (Some c) is at)) 0 ws ms i here from once
    where
      by_child : (h : ℕ) (v : PlainWidget) (place : ℕ) → (h ≡ j → ⊥) → (o : Option PlainNode) → slice_get (list_of ns) h ≡ o → told num k (gathered_by (option_map (λ n u p. take n u) o) v place) ≡ None
      by_child h v place other None e = refl
      by_child h v place other (Some d) e = none d v (λ x. other (apart_children k h j ns d c differ e at x there))

      lone : (h : ℕ) (v : PlainWidget) (place : ℕ) → (h ≡ j → ⊥) → told num k (gathered_by (slice_get each h) v place) ≡ None
      lone h v place other =
          ap (λ (o : Option (PlainWidget → ℕ → List A)). told num k (gathered_by o v place)) (child_at (λ n u p. take n u) each (list_of ns) h (slice_get (list_of ns) h) is refl)
          ∙ by_child h v place other (slice_get (list_of ns) h) refl

-- ---- nothing is told of a number that a node doesn't have

abbrev pub look_number : NewLook → ℕ
look_number l = l.number

abbrev pub order_number : NewOrder → ℕ
order_number o = o.number

module _ (k : ℕ) where
  mutual
    pub no_look : (n : PlainNode) (w : PlainWidget) → (IsIn k (numbers_of n) → ⊥) → told look_number k (looks_retaken n w) ≡ None
    no_look (node number v fs s i ns) w out =
        let ms = matching (map widget_of (list_of ns)) (child_widgets w) in
        none_when look_number k (is_same_widget v w) (new_look number (look_of w)) (gathered (each_looks ns) 0 (child_widgets w) ms) (λ e. out (inl (sym e)))
        (none_gathered look_number k (each_looks ns) (λ j v place. no_look_at ns (λ x. out (inr x)) j v place) 0 (child_widgets w) ms)

    pub no_look_at : (ns : PlainNodes) → (IsIn k (numbers_in ns) → ⊥) → (j : ℕ) (w : PlainWidget) (place : ℕ) → told look_number k (gathered_by (slice_get (each_looks ns) j) w place) ≡ None
    no_look_at no_nodes out j w place = refl
    no_look_at (more_nodes n ns) out zero w place = no_look n w (λ x. out (in_left k (numbers_of n) (numbers_in ns) x))
    no_look_at (more_nodes n ns) out (suc j) w place = no_look_at ns (λ x. out (in_right k (numbers_of n) (numbers_in ns) x)) j w place

  mutual
    pub no_order : (n : PlainNode) (w : PlainWidget) → (IsIn k (numbers_of n) → ⊥) → told order_number k (orders_retaken n w) ≡ None
    no_order (node number v fs s i ns) w out =
        let ms = matching (map widget_of (list_of ns)) (child_widgets w) in
        none_when order_number k (is_same_widget v w) (record { number = number; places = ms }) (gathered (each_order ns) 0 (child_widgets w) ms) (λ e. out (inl (sym e)))
        (none_gathered order_number k (each_order ns) (λ j v place. no_order_at ns (λ x. out (inr x)) j v place) 0 (child_widgets w) ms)

    pub no_order_at : (ns : PlainNodes) → (IsIn k (numbers_in ns) → ⊥) → (j : ℕ) (w : PlainWidget) (place : ℕ) → told order_number k (gathered_by (slice_get (each_order ns) j) w place) ≡ None
    no_order_at no_nodes out j w place = refl
    no_order_at (more_nodes n ns) out zero w place = no_order n w (λ x. out (in_left k (numbers_of n) (numbers_in ns) x))
    no_order_at (more_nodes n ns) out (suc j) w place = no_order_at ns (λ x. out (in_right k (numbers_of n) (numbers_in ns) x)) j w place

-- so it is of all that is gathered
pub untold_below : (k : ℕ) (ns : PlainNodes) (ws : List PlainWidget) (ms : List (Option ℕ)) → (IsIn k (numbers_in ns) → ⊥) → TellsNothing (gathered (each_looks ns) 0 ws ms) (gathered (each_order ns) 0 ws ms) k
untold_below k ns ws ms out = (
  none_gathered look_number k (each_looks ns) (λ j w place. no_look_at k ns out j w place) 0 ws ms,
  none_gathered order_number k (each_order ns) (λ j w place. no_order_at k ns out j w place) 0 ws ms,
)
