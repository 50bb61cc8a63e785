-- Each number that the first phase of a build gives is in its tree.
use Rattle.std.proofs.Common.{◌≡◌, ℕ, zero, suc, ◌<◌, ◌≤◌, nat_le, Option, Some, None, List, [], ◌∷◌, ◌++◌, refl, subst, ◌∙◌, inl, inr, arith}
use Rattle.std.proofs.lemmas.Bool.{cases_lt}
use Rattle.fx_expr.specs.declared.values.Value.{Value}
use Rattle.widget_keys.specs.declared.keys.Key.{Key}
use Rattle.widget_keys.specs.declared.keys.Key.TheVariants as key
use Rattle.widget_model.specs.Plain.{PlainWidget, look_of, key_of}
use Rattle.plain_tree.specs.At.{numbers_of, numbers_in}
use Rattle.plain_tree.specs.PlainNode.{PlainNode, nodes_of}
use Rattle.plain_tree.proofs.Numbers.{IsIn, in_left, in_right}
use Rattle.build_form.specs.Step.{Progress, Step, stops, gives, each, tree_too_large, repeated_global_key}
use Rattle.build_form.specs.BuildRole.{build_role_of}
use Rattle.build_form.specs.Partner.{Arrival, arrivals, root_arrival, partner_of}
use Rattle.build_form.specs.Entering.{Blueprint, Basis, Phase, first, depth_limit, met_once, number_for, fields_for, next_after, counted, given_by, unless_repeated, apart, values_below, waits, put_off, opened, entered_below, enter}
use Rattle.build_form.specs.FullBuild.{started, basis, first_tree}
use Rattle.build_form.proofs.OldOrNew.{OnGives, then, either}
use Rattle.build_form.proofs.Stepping.{given_keeps}

-- these are among some numbers: those that are given between two states of a build
abbrev Covers : Progress → Progress → List ℕ → Type 0
Covers s t xs = (s.next ≤ t.next) × ((w : ℕ) → s.next ≤ w → w < t.next → IsIn w xs)

covers_none : (s t : Progress) (xs : List ℕ) → t.next ≡ s.next → Covers s t xs
covers_none s t xs e = (omega (arith, e), λ w low high. absurd (omega (arith, e, low, high)))

covers_both : (s t u : Progress) (xs ys : List ℕ) → Covers s t xs → Covers t u ys → Covers s u (xs ++ ys)
covers_both s t u xs ys h k = (
  (let a = h.0 in let b = k.0 in omega (arith, a, b)),
  λ w low high. elim (cases_lt w t.next) [
    | inl less ↦ in_left w xs ys (h.1 w low less)
    | inr more ↦ in_right w xs ys (k.1 w more high)
  ],
)

-- ---- a widget is opened

met_next : (k : Key Value) (s : Progress) → OnGives (met_once k s) (λ x t. t.next ≡ s.next)
met_next key.None s = refl
met_next (key.Local k) s = refl
met_next (key.Global k) s = either (s.met k) (stops (repeated_global_key k)) _ (λ x t. t.next ≡ s.next) tt refl

apart_next : (r : Option (Key Value)) (ws : List PlainWidget) (s : Progress) (n : ℕ) → s.next ≡ n → OnGives (unless_repeated r ws s) (λ vs t. t.next ≡ n)
apart_next None ws s n e = e
apart_next (Some k) ws s n e = tt

-- a number is given where nothing is gone on from
one_given : (partner : Option PlainNode) (s s1 t : Progress) → s1.next ≡ s.next → t.next ≡ next_after partner s1.next → Covers s t (number_for partner s1 ∷ [])
one_given None s s1 t e f = (omega (arith, e, f), λ w low high. inl (omega (arith, e, f, low, high)))
one_given (Some n) s s1 t e f = covers_none s t (number_for (Some n) s1 ∷ []) (f ∙ e)

opened_covers : (from : Basis) (values : List Value) (a : Arrival) (s : Progress) → OnGives (opened from values a s) (λ o t. Covers s t (o.number ∷ []))
opened_covers from values a s =
    let partner = partner_of from.holder a in
    let fields = fields_for from.program a.widget partner in
    let role = build_role_of (look_of a.widget) in
    either (nat_le from.program.nodes s.entered) (stops tree_too_large) _ (λ o t. Covers s t (o.number ∷ [])) tt
    (then (met_once (key_of a.widget) s) _ (λ x t. t.next ≡ s.next) (λ o t. Covers s t (o.number ∷ [])) (met_next (key_of a.widget) s) (λ x s1 e1.
    then (given_by from.program role values (number_for partner s1) fields a.widget (counted partner s1)) _ (λ y t. t.next ≡ next_after partner s1.next) (λ o t. Covers s t (o.number ∷ []))
    (given_keeps (λ t. t.next ≡ next_after partner s1.next) from.program role values (number_for partner s1) fields a.widget (counted partner s1) refl) (λ ws s2 e2.
    then (apart ws s2) _ (λ y t. t.next ≡ next_after partner s1.next) (λ o t. Covers s t (o.number ∷ [])) (apart_next _ ws s2 (next_after partner s1.next) e2) (λ vs s3 e3.
    one_given partner s s1 s3 e1 e3))))

-- ---- a widget is entered

module _ (from : Basis) where
  each_covers : (go : Arrival → Progress → Step PlainNode) → ((a : Arrival) (s : Progress) → OnGives (go a s) (λ n t. Covers s t (numbers_of n))) → (arriving : List Arrival) (s : Progress)
      → OnGives (each go arriving s) (λ ns t. Covers s t (numbers_in (nodes_of ns)))
  each_covers go step [] s = covers_none s s [] refl
  each_covers go step (a ∷ arriving) s =
      then (go a s) _ (λ n t. Covers s t (numbers_of n)) (λ ns t. Covers s t (numbers_in (nodes_of ns))) (step a s) (λ n s1 h.
      then (each go arriving s1) _ (λ ns t. Covers s1 t (numbers_in (nodes_of ns))) (λ ns t. Covers s t (numbers_in (nodes_of ns))) (each_covers go step arriving s1) (λ ns s2 k.
      covers_both s s1 s2 (numbers_of n) (numbers_in (nodes_of ns)) h k))

  enter_covers : (phase : Phase) (left : ℕ) (values : List Value) (a : Arrival) (s : Progress) → OnGives (enter from phase left values a s) (λ n t. Covers s t (numbers_of n))
  unfolding enter
  enter_covers phase zero values a s = tt
  enter_covers phase (suc left) values a s =
      then (opened from values a s) _ (λ o t. Covers s t (o.number ∷ [])) (λ n t. Covers s t (numbers_of n)) (opened_covers from values a s) (λ o s1 h.
      then (entered_below (enter from phase left) phase values a.widget o s1) _ (λ ns t. Covers s1 t (numbers_in (nodes_of ns))) (λ n t. Covers s t (numbers_of n))
      (either (waits phase (build_role_of (look_of a.widget))) (put_off o.partner s1) _ (λ ns t. Covers s1 t (numbers_in (nodes_of ns)))
      (covers_none s1 (record { entered = s1.entered; met = s1.met; next = s1.next; waiting = s1.waiting ++ o.partner ∷ [] }) [] refl)
      (each_covers (enter from phase left (values_below a.widget values)) (λ b t. enter_covers phase left (values_below a.widget values) b t) (arrivals o.partner o.given) s1))
      (λ ns s2 k. covers_both s s1 s2 (o.number ∷ []) (numbers_in (nodes_of ns)) h k))

pub first_covers : (b : Blueprint) (old : Option PlainNode) (next : ℕ) (root : PlainWidget) (tree : PlainNode) (s : Progress) → first_tree b old next root ≡ gives tree s
    → (w : ℕ) → next ≤ w → w < s.next → IsIn w (numbers_of tree)
first_covers b old next root tree s e =
    (subst (λ r. OnGives r (λ n t. Covers (started next) t (numbers_of n))) e (enter_covers (basis b old) first depth_limit b.defaults (root_arrival old root) (started next))).1
