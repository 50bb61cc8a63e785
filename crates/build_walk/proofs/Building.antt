-- How many components a walk builds is counted step by step.
use Rattle.std.proofs.Common.{◌≡◌, ℕ, zero, suc, ◌+◌, nat_le, Bool, true, false, not, ◌&&◌, cond, List, [], ◌∷◌, ◌++◌, refl, sym, ap, ◌∙◌, arith}
use Rattle.fx_expr.specs.declared.values.Value.{Value}
use Rattle.widget_keys.specs.declared.keys.Key.{Key}
use Rattle.widget_keys.specs.declared.keys.Key.TheVariants as key
use Rattle.widget_model.specs.Plain.{PlainWidget, look_of, key_of}
use Rattle.plain_tree.specs.PlainNode.{PlainNode}
use Rattle.build_form.specs.Step.{Fault, tree_too_large, Progress, Step, stops, gives, and_then, each}
use Rattle.build_form.specs.BuildRole.{build_role_of}
use Rattle.build_form.specs.Partner.{Arrival, partner_of, arrivals}
use Rattle.build_form.specs.Entering.{Basis, Phase, met_once, values_below, waits, put_off, Opening, entered_below}
use Rattle.work_sets.specs.Due.{names_read}
use Rattle.work_sets.specs.Entered.{is_met, is_let_in}
use Rattle.build_walk.specs.Past.{Pasts}
use Rattle.build_walk.specs.Keeping.{kept_output, reopened, reenter}
use Rattle.build_walk.specs.Counting.{built_here, count_after, builds_by_each, builds_below, builds_opening, builds_from}
use Rattle.build_walk.proofs.Serving.{chained, along, count_along, count_chained, count_both}

-- ---- steps one after another

module _ {A B : Type 0} (go : A → Progress → Step B) where
  pub each_append : (xs zs : List A) (s : Progress) → each go (xs ++ zs) s ≡ and_then (each go xs s) (λ ys t. and_then (each go zs t) (λ ws u. gives (ys ++ ws) u))
  each_append [] zs s = same (each go zs s)
    where
      same : (r : Step (List B)) → r ≡ and_then r (λ ws u. gives ws u)
      same (stops f) = refl
      same (gives ws u) = refl
  each_append (x ∷ xs) zs s =
      along (go x s) _ _ (λ y s1.
      ap (λ r. and_then r (λ ys s2. gives (y ∷ ys) s2)) (each_append xs zs s1)
      ∙ chained (each go xs s1) (λ ys t. and_then (each go zs t) (λ ws u. gives (ys ++ ws) u)) (λ ys s2. gives (y ∷ ys) s2)
      ∙ along (each go xs s1) _ _ (λ ys t. chained (each go zs t) (λ ws u. gives (ys ++ ws) u) (λ vs s2. gives (y ∷ vs) s2))
      ∙ sym (chained (each go xs s1) (λ ys s2. gives (y ∷ ys) s2) (λ ys t. and_then (each go zs t) (λ ws u. gives (ys ++ ws) u))))
      ∙ sym (chained (go x s) (λ y s1. and_then (each go xs s1) (λ ys s2. gives (y ∷ ys) s2)) (λ ys t. and_then (each go zs t) (λ ws u. gives (ys ++ ws) u)))

  -- one stops after some that gave something
  pub stopped_at : (xs zs : List A) (x : A) (s t : Progress) (ys : List B) (f : Fault) → each go xs s ≡ gives ys t → go x t ≡ stops f → each go (xs ++ x ∷ zs) s ≡ stops f
  stopped_at xs zs x s t ys f e stopped =
      each_append xs (x ∷ zs) s
      ∙ ap (λ r. and_then r (λ vs u. and_then (each go (x ∷ zs) u) (λ ws q. gives (vs ++ ws) q))) e
      ∙ ap (λ r. and_then (and_then r (λ y s1. and_then (each go zs s1) (λ ws s2. gives (y ∷ ws) s2))) (λ ws q. gives (ys ++ ws) q)) stopped

  module _ (count : A → Progress → ℕ) where
    count_append : (xs zs : List A) (s : Progress)
        → builds_by_each go count (xs ++ zs) s ≡ builds_by_each go count xs s + count_after (each go xs s) (λ ys t. builds_by_each go count zs t)
    count_append [] zs s = let n = builds_by_each go count zs s in omega arith
    count_append (x ∷ xs) zs s =
        let later = λ (y : B) (s1 : Progress). count_after (each go xs s1) (λ ys t. builds_by_each go count zs t) in
        let first = λ (y : B) (s1 : Progress). builds_by_each go count xs s1 in
        let parts : count_after (go x s) (λ y s1. builds_by_each go count (xs ++ zs) s1) ≡ count_after (go x s) first + count_after (go x s) later =
        count_along (go x s) _ (λ y s1. first y s1 + later y s1) (λ y s1. count_append xs zs s1) ∙ count_both (go x s) first later in
        let rest : count_after (each go (x ∷ xs) s) (λ ys t. builds_by_each go count zs t) ≡ count_after (go x s) later =
        count_chained (go x s) (λ y s1. and_then (each go xs s1) (λ ys s2. gives (y ∷ ys) s2)) (λ ys t. builds_by_each go count zs t)
        ∙ count_along (go x s) _ later (λ y s1. count_chained (each go xs s1) (λ ys s2. gives (y ∷ ys) s2) (λ ys t. builds_by_each go count zs t)) in
        ap (λ n. count x s + n) parts
        ∙ plus_assoc (count x s) (count_after (go x s) first) (count_after (go x s) later)
        ∙ ap (λ n. count x s + count_after (go x s) first + n) (sym rest)
      where
        plus_assoc : (a b c : ℕ) → a + (b + c) ≡ a + b + c
        plus_assoc a b c = omega arith

    count_at : (xs zs : List A) (x : A) (s t : Progress) (ys : List B) → each go xs s ≡ gives ys t
        → builds_by_each go count (xs ++ x ∷ zs) s ≡ builds_by_each go count xs s + (count x t + count_after (go x t) (λ y u. builds_by_each go count zs u))
    count_at xs zs x s t ys e =
        count_append xs (x ∷ zs) s
        ∙ ap (λ r. builds_by_each go count xs s + count_after r (λ vs u. builds_by_each go count (x ∷ zs) u)) e

    -- one more, and one at which it stops
    pub count_more : (xs : List A) (x : A) (s t : Progress) (ys : List B) → each go xs s ≡ gives ys t → builds_by_each go count (xs ++ x ∷ []) s ≡ builds_by_each go count xs s + count x t
    count_more xs x s t ys e = count_at xs [] x s t ys e ∙ ap (λ n. builds_by_each go count xs s + n) (nothing (count x t) (go x t))
      where
        nothing : (n : ℕ) (r : Step B) → n + count_after r (λ y u. 0) ≡ n
        nothing n (stops f) = omega arith
        nothing n (gives y u) = omega arith

    pub count_last : (xs zs : List A) (x : A) (s t : Progress) (ys : List B) (f : Fault) → each go xs s ≡ gives ys t → go x t ≡ stops f
        → builds_by_each go count (xs ++ x ∷ zs) s ≡ builds_by_each go count xs s + count x t
    count_last xs zs x s t ys f e stopped =
        count_at xs zs x s t ys e
        ∙ ap (λ r. builds_by_each go count xs s + (count x t + count_after r (λ y u. builds_by_each go count zs u))) stopped
        ∙ ap (λ n. builds_by_each go count xs s + n) (nothing (count x t))
      where
        nothing : (n : ℕ) → n + 0 ≡ n
        nothing n = omega arith

-- ---- a widget

nothing_below : (b : Bool) (n : ℕ) → cond b (n + 0) 0 ≡ cond b n 0
nothing_below true n = omega arith
nothing_below false n = refl

module _ (o : Opening) (t : Progress) where
  not_met : (b : Bool) (f : Fault) (s : Progress) (later : Progress → Step Opening) → and_then (cond b (stops f) (gives tt s)) (λ (x : Unit {0}) s1. later s1) ≡ gives o t → not b ≡ true
  not_met true f s later e = cc
  not_met false f s later e = refl

  let_in : (many : Bool) (k : Key Value) (s : Progress) (later : Progress → Step Opening)
      → cond many (stops tree_too_large) (and_then (met_once k s) (λ _ s1. later s1)) ≡ gives o t → (not many && not (is_met k s)) ≡ true
  let_in true k s later e = cc
  let_in false key.None s later e = refl
  let_in false (key.Local v) s later e = refl
  let_in false (key.Global v) s later e = not_met (s.met v) _ _ later e

module _ (from : Basis) (pasts : Pasts) (phase : Phase) (left k : ℕ) (values : List Value) (a : Arrival) (s : Progress) where
  pub none_deeper : left ≡ 0 → builds_from from pasts phase left values a s ≡ 0
  unfolding builds_from
  none_deeper e = rw e refl

  abbrev own : ℕ
  own = built_here (names_read (look_of a.widget)) (kept_output pasts (partner_of from.holder a) a.widget values)

  abbrev below : Opening → Progress → ℕ
  below o t = builds_below (reenter from pasts phase k) (builds_from from pasts phase k) phase values a.widget o t

  one_level : left ≡ suc k → builds_from from pasts phase left values a s ≡ cond (is_let_in from a s) (own + count_after (reopened from pasts values a s) below) 0
  unfolding builds_from
  one_level e = ap (λ l. builds_from from pasts phase l values a s) e

  pub built_opening : (f : Fault) → left ≡ suc k → reopened from pasts values a s ≡ stops f → builds_from from pasts phase left values a s ≡ builds_opening from pasts values a s
  built_opening f e stopped =
      one_level e ∙ ap (λ r. cond (is_let_in from a s) (own + count_after r below) 0) stopped ∙ nothing_below (is_let_in from a s) own

  pub built_entering : (o : Opening) (t : Progress) → left ≡ suc k → reopened from pasts values a s ≡ gives o t → builds_from from pasts phase left values a s ≡ builds_opening from pasts values a s + below o t
  built_entering o t e was =
      let inside : is_let_in from a s ≡ true = let_in o t _ (key_of a.widget) s _ was in
      one_level e
      ∙ ap (λ r. cond (is_let_in from a s) (own + count_after r below) 0) was
      ∙ ap (λ b. cond b (own + below o t) 0) inside
      ∙ sym (ap (λ b. cond b own 0 + below o t) inside)

module _ (from : Basis) (pasts : Pasts) (phase : Phase) (left : ℕ) (values : List Value) (w : PlainWidget) (o : Opening) (s : Progress) where
  abbrev inner : List Value
  inner = values_below w values

  abbrev counted : ℕ
  counted = builds_by_each (reenter from pasts phase left inner) (builds_from from pasts phase left inner) (arrivals o.partner o.given) s

  pub none_put_off : waits phase (build_role_of (look_of w)) ≡ true → builds_below (reenter from pasts phase left) (builds_from from pasts phase left) phase values w o s ≡ 0
  none_put_off e = ap (λ b. cond b 0 counted) e

  pub each_below : waits phase (build_role_of (look_of w)) ≡ false → builds_below (reenter from pasts phase left) (builds_from from pasts phase left) phase values w o s ≡ counted
  each_below e = ap (λ b. cond b 0 counted) e

  pub stops_below : (f : Fault) → waits phase (build_role_of (look_of w)) ≡ false → each (reenter from pasts phase left inner) (arrivals o.partner o.given) s ≡ stops f
      → entered_below (reenter from pasts phase left) phase values w o s ≡ stops f
  stops_below f e stopped = ap (λ b. cond b (put_off o.partner s) (each (reenter from pasts phase left inner) (arrivals o.partner o.given) s)) e ∙ stopped
