-- Each of as many child widgets is taken by another one of the old nodes: the new nodes are the old ones in another order.
use Rattle.std.proofs.Common.{◌≡◌, ℕ, zero, suc, ◌+◌, ◌<◌, ◌==◌, true, not, ◌&&◌, is_some, Option, Some, None, List, [], ◌∷◌, ◌++◌, map, length, refl, sym, ap, ◌∙◌, subst, inl, inr, arith}
use Rattle.std.specs.Prelude.{slice_get}
use Rattle.std.proofs.lemmas.Bool.{and_parts, eqb-true}
use Rattle.std.proofs.lemmas.List.{length-map}
use Rattle.widget_model.specs.Plain.{PlainWidget, key_of}
use Rattle.reconcile.specs.Keys.{NoKeyRepeats}
use Rattle.reconcile.specs.Matching.{matching}
use Rattle.reconcile.proofs.LawLemmas.{length-matching, matched_once}
use Rattle.plain_tree.specs.PlainNode.{PlainNode, widget_of}
use Rattle.build_form.specs.Entering.{first_repeated}
use Rattle.build_form.proofs.Apart.{none_repeats}
use Rattle.settled_builds.specs.Retaken.{gathered, asked_by, all_asked, are_apart, can_follow_all, can_retake, retaking}
use Rattle.settled_builds.proofs.Alike.{take, asked_child, gathered_child}
use Rattle.settled_builds.proofs.Shuffles.{Shuffle, Any, any_shuffled, sum, sum_shuffled, Lacks, AreOnce, Has, AllIn, all_shuffled}

-- ---- places

-- the places that widgets are matched to
abbrev pub places : List (Option ℕ) → List ℕ
places [] = []
places (None ∷ ms) = places ms
places (Some j ∷ ms) = j ∷ places ms

lacks : (j : ℕ) (ms : List (Option ℕ)) → ((k : ℕ) → slice_get ms k ≡ Some (Some j) → ⊥) → Lacks j (places ms)
lacks j [] h = tt
lacks j (None ∷ ms) h = lacks j ms (λ k e. h (suc k) e)
lacks j (Some i ∷ ms) h = (λ e. h 0 (λ x. Some (Some (sym e x))), lacks j ms (λ k e. h (suc k) e))

later_places : (i k : ℕ) → suc i ≡ suc k → i ≡ k
later_places i k e = omega arith

once : (ms : List (Option ℕ)) → ((i k j : ℕ) → slice_get ms i ≡ Some (Some j) → slice_get ms k ≡ Some (Some j) → i ≡ k) → AreOnce (places ms)
once [] h = tt
once (None ∷ ms) h = once ms (λ i k j e f. later_places i k (h (suc i) (suc k) j e f))
once (Some j ∷ ms) h = (
  lacks j ms (λ k e. let same : 0 ≡ suc k = h 0 (suc k) j refl e in omega arith),
  once ms (λ i k l e f. later_places i k (h (suc i) (suc k) l e f)),
)

-- so many numbers from one on
abbrev pub from_on : ℕ → ℕ → List ℕ
from_on i zero = []
from_on i (suc n) = i ∷ from_on (suc i) n

length_on : (i n : ℕ) → length (from_on i n) ≡ n
length_on i zero = refl
length_on i (suc n) = ap suc (length_on (suc i) n)

has_on : (i n k : ℕ) → k < n → Has (i + k) (from_on i n)
has_on i zero k low = absurd (omega arith)
has_on i (suc n) zero low = inl (omega arith)
has_on i (suc n) (suc k) low =
    let same : suc i + k ≡ i + suc k = omega arith in inr (subst (λ x. Has x (from_on (suc i) n)) same (has_on (suc i) n k (omega arith)))

in_list : {A : Type 0} (xs : List A) (j : ℕ) (x : A) → slice_get xs j ≡ Some x → j < length xs
in_list [] j x e = absurd (cc)
in_list (y ∷ ys) zero x e = omega arith
in_list (y ∷ ys) (suc j) x e = let rest = in_list ys j x e in omega arith

-- ---- the new nodes

-- each of these is so
abbrev pub Each : (PlainNode → Type 0) → List PlainNode → Type 0
Each Q [] = Unit {0}
Each Q (g ∷ gs) = Q g × Each Q gs

-- one of the old nodes took a widget at a place
pub record TakenAt (ns : List PlainNode) (j : ℕ) (w : PlainWidget) (place : ℕ) (g : PlainNode) : Type 0 where
  pub child : PlainNode
  pub at : slice_get ns j ≡ Some child
  pub can : can_retake child w ≡ true
  pub is : g ≡ retaking child w place

module _ (ns : List PlainNode) where
  abbrev pub AreTaken : ℕ → List ℕ → List PlainWidget → List PlainNode → Type 0
  AreTaken place [] [] [] = Unit {0}
  AreTaken place [] [] (g ∷ gs) = ⊥
  AreTaken place [] (w ∷ ws) gs = ⊥
  AreTaken place (j ∷ js) [] gs = ⊥
  AreTaken place (j ∷ js) (w ∷ ws) [] = ⊥
  AreTaken place (j ∷ js) (w ∷ ws) (g ∷ gs) = TakenAt ns j w place g × AreTaken (suc place) js ws gs

  are_taken : (place : ℕ) (ws : List PlainWidget) (ms : List (Option ℕ)) → length ms ≡ length ws → all_asked (map can_retake ns) ws ms ≡ true → AreTaken place (places ms) ws (gathered (map take ns) place ws ms)
  are_taken place [] [] long can = tt
  are_taken place [] (m ∷ ms) long can = absurd (omega arith)
  are_taken place (w ∷ ws) [] long can = absurd (cc)
  are_taken place (w ∷ ws) (None ∷ ms) long can = absurd (cc)
  are_taken place (w ∷ ws) (Some j ∷ ms) long can =
      let parts = and_parts (asked_by (slice_get (map can_retake ns) j) w) (all_asked (map can_retake ns) ws ms) can in
      let c = asked_child ns j w parts.0 in
      subst (λ (xs : List PlainNode). AreTaken place (j ∷ places ms) (w ∷ ws) (xs ++ gathered (map take ns) (suc place) ws ms)) (sym (gathered_child ns j w place c.child c.at)) (
        record { child = c.child; at = c.at; can = c.can; is = refl },
        are_taken (suc place) ws ms (later_places (length ms) (length ws) long) parts.1,
      )

  all_in : (place : ℕ) (js : List ℕ) (ws : List PlainWidget) (gs : List PlainNode) → AreTaken place js ws gs → AllIn (from_on 0 (length ns)) js
  all_in place [] ws gs h = tt
  all_in place (j ∷ js) [] gs h = absurd h
  all_in place (j ∷ js) (w ∷ ws) [] h = absurd h
  all_in place (j ∷ js) (w ∷ ws) (g ∷ gs) h = (let plus : 0 + j ≡ j = omega arith in subst (λ x. Has x (from_on 0 (length ns))) plus (has_on 0 (length ns) j (in_list ns j h.0.child h.0.at)), all_in (suc place) js ws gs h.1)

  as_many : (place : ℕ) (js : List ℕ) (ws : List PlainWidget) (gs : List PlainNode) → AreTaken place js ws gs → length js ≡ length ws
  as_many place [] [] gs h = refl
  as_many place [] (w ∷ ws) gs h = absurd h
  as_many place (j ∷ js) [] gs h = absurd h
  as_many place (j ∷ js) (w ∷ ws) [] h = absurd h
  as_many place (j ∷ js) (w ∷ ws) (g ∷ gs) h = ap suc (as_many (suc place) js ws gs h.1)

  pub record Picks (ws : List PlainWidget) (gs : List PlainNode) : Type 0 where
    pub js : List ℕ
    pub taken : AreTaken 0 js ws gs
    pub shuffle : Shuffle (from_on 0 (length ns)) js

  none_twice : {K : Type 0} (r : Option K) → not (is_some r) ≡ true → r ≡ None
  none_twice None e = refl
  none_twice (Some k) e = cc

  pub picked : (ws : List PlainWidget) → can_follow_all (map widget_of ns) ws (map can_retake ns) ≡ true → Picks ws (gathered (map take ns) 0 ws (matching (map widget_of ns) ws))
  picked ws can =
      let olds = map widget_of ns in
      let ms = matching olds ws in
      let long = and_parts (length olds == length ws) (are_apart ws && all_asked (map can_retake ns) ws ms) can in
      let apart = and_parts (are_apart ws) (all_asked (map can_retake ns) ws ms) long.1 in
      let differ : NoKeyRepeats ws = none_repeats ws (none_twice (first_repeated [] (map key_of ws)) apart.0) in
      let taken = are_taken 0 ws ms (length-matching olds ws) apart.1 in
      let same : length olds ≡ length ws = eqb-true (length olds) (length ws) long.0 in
      let count : length (from_on 0 (length ns)) ≡ length (places ms) = length_on 0 (length ns) ∙ sym (length-map ns widget_of) ∙ same ∙ sym (as_many 0 (places ms) ws (gathered (map take ns) 0 ws ms) taken) in
      record {
        js = places ms;
        taken = taken;
        shuffle = all_shuffled (from_on 0 (length ns)) (places ms) (once ms (λ i k j e f. matched_once olds ws differ i k j e f)) (all_in 0 (places ms) ws (gathered (map take ns) 0 ws ms) taken) count;
      }

  -- ---- what follows of them

  -- each of them
  module _ (Q : PlainNode → Type 0) (step : (j : ℕ) (c : PlainNode) (w : PlainWidget) (place : ℕ) → slice_get ns j ≡ Some c → can_retake c w ≡ true → Q (retaking c w place)) where
    each_by : (place : ℕ) (js : List ℕ) (ws : List PlainWidget) (gs : List PlainNode) → AreTaken place js ws gs → Each Q gs
    each_by place [] [] [] h = tt
    each_by place [] [] (g ∷ gs) h = absurd h
    each_by place [] (w ∷ ws) gs h = absurd h
    each_by place (j ∷ js) [] gs h = absurd h
    each_by place (j ∷ js) (w ∷ ws) [] h = absurd h
    each_by place (j ∷ js) (w ∷ ws) (g ∷ gs) h = (subst Q (sym h.0.is) (step j h.0.child w place h.0.at h.0.can), each_by (suc place) js ws gs h.1)

    pub each_picked : (ws : List PlainWidget) (gs : List PlainNode) → Picks ws gs → Each Q gs
    each_picked ws gs h = each_by 0 h.js ws gs h.taken

  -- how much they make together
  module _ (f : PlainNode → ℕ) (step : (j : ℕ) (c : PlainNode) (w : PlainWidget) (place : ℕ) → slice_get ns j ≡ Some c → can_retake c w ≡ true → f (retaking c w place) ≡ f c) where
    abbrev of_any : Option PlainNode → ℕ
    of_any None = 0
    of_any (Some c) = f c

    sum_by : (place : ℕ) (js : List ℕ) (ws : List PlainWidget) (gs : List PlainNode) → AreTaken place js ws gs → sum f gs ≡ sum (λ j. of_any (slice_get ns j)) js
    sum_by place [] [] [] h = refl
    sum_by place [] [] (g ∷ gs) h = absurd h
    sum_by place [] (w ∷ ws) gs h = absurd h
    sum_by place (j ∷ js) [] gs h = absurd h
    sum_by place (j ∷ js) (w ∷ ws) [] h = absurd h
    sum_by place (j ∷ js) (w ∷ ws) (g ∷ gs) h =
        let here : f g ≡ of_any (slice_get ns j) = ap f h.0.is ∙ step j h.0.child w place h.0.at h.0.can ∙ sym (ap of_any h.0.at) in
        let rest = sum_by (suc place) js ws gs h.1 in
        λ i. here i + rest i

    sum_on : (at : ℕ → Option PlainNode) (i : ℕ) (ms : List PlainNode) → ((k : ℕ) → at (i + k) ≡ slice_get ms k) → sum (λ j. of_any (at j)) (from_on i (length ms)) ≡ sum f ms
    sum_on at i [] h = refl
    sum_on at i (m ∷ ms) h =
        let plus : i ≡ i + 0 = omega arith in
        let here : of_any (at i) ≡ f m = ap (λ k. of_any (at k)) plus ∙ ap of_any (h 0) in
        let rest = sum_on at (suc i) ms (λ k. (let next : suc i + k ≡ i + suc k = omega arith in ap at next) ∙ h (suc k)) in
        λ x. here x + rest x

    pub sum_picked : (ws : List PlainWidget) (gs : List PlainNode) → Picks ws gs → sum f gs ≡ sum f ns
    sum_picked ws gs h =
        sum_by 0 h.js ws gs h.taken
        ∙ sum_shuffled (λ j. of_any (slice_get ns j)) (from_on 0 (length ns)) h.js h.shuffle
        ∙ sum_on (slice_get ns) 0 ns (λ k. let plus : 0 + k ≡ k = omega arith in ap (slice_get ns) plus)

  -- what one of the old ones has
  module _ (P Q : PlainNode → Type 0) (step : (j : ℕ) (c : PlainNode) (w : PlainWidget) (place : ℕ) → slice_get ns j ≡ Some c → can_retake c w ≡ true → P c → Q (retaking c w place)) where
    abbrev HasAt : (ℕ → Option PlainNode) → ℕ → Type 0
    HasAt at j = (c : PlainNode) × (at j ≡ Some c) × P c

    some_is : (c d : PlainNode) → Some c ≡ Some d → c ≡ d
    some_is c d e = cc

    any_by : (place : ℕ) (js : List ℕ) (ws : List PlainWidget) (gs : List PlainNode) → AreTaken place js ws gs → Any (HasAt (slice_get ns)) js → Any Q gs
    any_by place [] [] [] h a = absurd a
    any_by place [] [] (g ∷ gs) h a = absurd h
    any_by place [] (w ∷ ws) gs h a = absurd h
    any_by place (j ∷ js) [] gs h a = absurd h
    any_by place (j ∷ js) (w ∷ ws) [] h a = absurd h
    any_by place (j ∷ js) (w ∷ ws) (g ∷ gs) h (inl a) = inl (subst Q (sym h.0.is) (step j h.0.child w place h.0.at h.0.can (subst P (some_is a.0 h.0.child (sym a.1 ∙ h.0.at)) a.2)))
    any_by place (j ∷ js) (w ∷ ws) (g ∷ gs) h (inr a) = inr (any_by (suc place) js ws gs h.1 a)

    any_on : (at : ℕ → Option PlainNode) (i : ℕ) (ms : List PlainNode) → ((k : ℕ) → at (i + k) ≡ slice_get ms k) → Any P ms → Any (HasAt at) (from_on i (length ms))
    any_on at i [] h a = absurd a
    any_on at i (m ∷ ms) h (inl a) = inl (m, (let plus : i ≡ i + 0 = omega arith in ap at plus) ∙ h 0, a)
    any_on at i (m ∷ ms) h (inr a) = inr (any_on at (suc i) ms (λ k. (let next : suc i + k ≡ i + suc k = omega arith in ap at next) ∙ h (suc k)) a)

    pub any_picked : (ws : List PlainWidget) (gs : List PlainNode) → Picks ws gs → Any P ns → Any Q gs
    any_picked ws gs h a = any_by 0 h.js ws gs h.taken (any_shuffled (HasAt (slice_get ns)) (from_on 0 (length ns)) h.js h.shuffle (any_on (slice_get ns) 0 ns (λ k. let plus : 0 + k ≡ k = omega arith in ap (slice_get ns) plus) a))
