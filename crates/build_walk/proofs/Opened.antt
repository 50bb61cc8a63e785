-- What is known of a widget that was entered before anything below it is.
use Rattle.std.proofs.Common.{◌≡◌, ℕ, nat_le, nat_lt, Bool, true, false, cond, Option, Some, None, List, [], map, refl, ◌∙◌, arith, ◌≤◌}
use Rattle.std.proofs.lemmas.Bool.{ltb-false}
use Rattle.fx_expr.specs.declared.values.Value.{Value}
use Rattle.widget_keys.specs.declared.keys.Key.{Key}
use Rattle.widget_keys.specs.declared.keys.Key.TheVariants as key
use Rattle.widget_model.specs.Plain.{PlainWidget, look_of, key_of, slots_of}
use Rattle.widget_model.specs.Size.{count_in}
use Rattle.plain_tree.specs.PlainNode.{PlainNode}
use Rattle.build_form.specs.Step.{tree_too_large, repeated_global_key, output_too_large, Progress, stops, gives}
use Rattle.build_form.specs.BuildRole.{BuildRole, composes, provides, keeps, lists, holds, build_role_of}
use Rattle.build_form.specs.Partner.{Arrival, partner_of}
use Rattle.build_form.specs.Entering.{Blueprint, Basis, output_limit, met_once, number_for, fields_for, next_after, counted, given_by, first_repeated, unless_repeated, apart, Opening, opened}
use Rattle.build_walk.specs.Fresh.{HasOutput}
use Rattle.build_walk.proofs.Stepping.{Ends, ends_then, ends_unless}

-- what waits stays, and no number is given
abbrev pub Stays : Progress → Progress → Type 0
Stays s t = (t.waiting ≡ s.waiting) × (t.next ≡ s.next)

pub record IsOpened (from : Basis) (values : List Value) (a : Arrival) (s : Progress) (o : Opening) (t : Progress) : Type 0 where
  pub partner : o.partner ≡ partner_of from.holder a
  pub waiting : t.waiting ≡ s.waiting
  pub grows : s.next ≤ t.next
  pub number : o.number ≡ number_for (partner_of from.holder a) s
  pub output : HasOutput from.program (build_role_of (look_of a.widget)) a.widget o.fields values o.number o.given

-- a global key changes nothing that waits
met_when : (t : Bool) (k : Value) (s : Progress) (u : Progress) → Stays s u → Ends {A = Unit {0}} (λ x v. Stays s v) (cond t (stops (repeated_global_key k)) (gives tt u))
met_when true k s u e = tt
met_when false k s u e = e

pub met_waiting : (k : Key Value) (s : Progress) → Ends (λ x t. Stays s t) (met_once k s)
met_waiting key.None s = (refl, refl)
met_waiting (key.Local k) s = (refl, refl)
met_waiting (key.Global k) s = met_when (s.met k) k s _ (refl, refl)

-- the number of a new node is the next one
grown : (partner : Option PlainNode) (next : ℕ) → next ≤ next_after partner next
grown None next = omega arith
grown (Some n) next = omega arith

same_number : (partner : Option PlainNode) (s t : Progress) → t.next ≡ s.next → number_for partner t ≡ number_for partner s
same_number None s t e = e
same_number (Some n) s t e = refl

-- what a body gives is small enough
small_when : (t : Bool) (b : Blueprint) (place : ℕ) (props : List Value) (w : PlainWidget) (fields values : List Value) (number : ℕ) (ws : List PlainWidget) (s : Progress)
    → ws ≡ b.output place props (slots_of w) fields values number → nat_lt output_limit (count_in ws) ≡ t
    → Ends (λ vs t. Stays s t × HasOutput b (composes place props) w fields values number vs) (cond t (stops output_too_large) (gives ws s))
small_when true b place props w fields values number ws s e small = tt
small_when false b place props w fields values number ws s e small = ((refl, refl), (e, ltb-false output_limit (count_in ws) small))

pub given_ends : (b : Blueprint) (r : BuildRole) (values : List Value) (number : ℕ) (fields : List Value) (w : PlainWidget) (s : Progress)
    → Ends (λ ws t. Stays s t × HasOutput b r w fields values number ws) (given_by b r values number fields w s)
given_ends b (composes place props) values number fields w s =
    let ws = b.output place props (slots_of w) fields values number in
    small_when (nat_lt output_limit (count_in ws)) b place props w fields values number ws s refl refl
given_ends b (provides name value) values number fields w s = ((refl, refl), tt)
given_ends b (keeps kept) values number fields w s = ((refl, refl), tt)
given_ends b (lists extent) values number fields w s = ((refl, refl), tt)
given_ends b holds values number fields w s = ((refl, refl), tt)

apart_when : (r : Option (Key Value)) (ws : List PlainWidget) (s : Progress) → Ends (λ vs t. Stays s t × (vs ≡ ws)) (unless_repeated r ws s)
apart_when None ws s = ((refl, refl), refl)
apart_when (Some k) ws s = tt

pub opened_ends : (from : Basis) (values : List Value) (a : Arrival) (s : Progress) → Ends (IsOpened from values a s) (opened from values a s)
opened_ends from values a s =
    let partner = partner_of from.holder a in
    let fields = fields_for from.program a.widget partner in
    let role = build_role_of (look_of a.widget) in
    ends_unless (IsOpened from values a s) (nat_le from.program.nodes s.entered) tree_too_large _
    (ends_then (λ x t. Stays s t) (IsOpened from values a s) (met_once (key_of a.widget) s) _ (met_waiting (key_of a.widget) s)
    (λ x s1 e1. ends_then (λ ws t. Stays (counted partner s1) t × HasOutput from.program role a.widget fields values (number_for partner s1) ws) (IsOpened from values a s)
    (given_by from.program role values (number_for partner s1) fields a.widget (counted partner s1)) _
    (given_ends from.program role values (number_for partner s1) fields a.widget (counted partner s1))
    (λ ws s2 h2. ends_then (λ vs t. Stays s2 t × (vs ≡ ws)) (IsOpened from values a s) (apart ws s2) _ (apart_when (first_repeated [] (map key_of ws)) ws s2)
    (λ vs s3 h3. record {
      partner = refl;
      waiting = h3.0.0 ∙ h2.0.0 ∙ e1.0;
      grows = let more = grown partner s1.next in let a = h3.0.1 in let b = h2.0.1 in let c = e1.1 in omega arith;
      number = same_number partner s s1 e1.1;
      output = rw h3.1 h2.1;
    }))))
