-- What is kept is what would be built.
use Rattle.std.proofs.Common.{◌≡◌, ℕ, ◌≤◌, Bool, true, false, not, ◌&&◌, cond, length, Option, Some, None, IfSome, List, [], ◌∷◌, refl, sym, ap, ◌∙◌, subst, Decides}
use Rattle.std.proofs.lemmas.Bool.{le-ltb}
use Rattle.fx_expr.specs.declared.values.Value.{Value}
use Rattle.fx_expr.specs.Scope.{value_at}
use Rattle.fx_expr.specs.Value.{value_eq}
use Rattle.fx_expr.specs.ValueLaws.{value_eq-Decides}
use Rattle.widget_model.specs.Look.{Look, component}
use Rattle.widget_model.specs.Plain.{PlainWidget, look_of, slots_of}
use Rattle.widget_model.specs.Size.{count_in}
use Rattle.plain_tree.specs.PlainNode.{PlainNode, number_of, fields_of}
use Rattle.build_form.specs.Step.{output_too_large, Progress, Step, stops, gives}
use Rattle.build_form.specs.BuildRole.{BuildRole, composes, provides, keeps, lists, holds, build_role_of}
use Rattle.build_form.specs.Entering.{Blueprint, output_limit, number_for, fields_for, counted, given_by, small_enough}
use Rattle.work_sets.specs.Due.{names_read}
use Rattle.work_sets.specs.Members.{is_same_widget}
use Rattle.build_walk.specs.Reading.{AgreeAt}
use Rattle.build_walk.specs.Past.{Past, Pasts}
use Rattle.build_walk.specs.Fresh.{output_by, ReadsItsNames, HasOutput, IsPastOf}
use Rattle.build_walk.specs.Keeping.{reads_alike, is_unchanged, kept_since, kept_output, kept_or}

pub both : (a b : Bool) → (a && b) ≡ true → (a ≡ true) × (b ≡ true)
both true b e = (refl, e)
both false b e = cc

not_true : (a : Bool) → not a ≡ true → a ≡ false
not_true true e = cc
not_true false e = refl

pub read_alike : (names : List ℕ) (was now : List Value) → reads_alike names was now ≡ true → AgreeAt names was now
read_alike [] was now e = tt
read_alike (name ∷ names) was now e =
    let h = both (value_eq (value_at was name) (value_at now name)) (reads_alike names was now) e in
    ((value_eq-Decides (value_at was name) (value_at now name)).0 h.0, read_alike names was now h.1)

-- a kind that reads names is a component
pub of_component : (look : Look) (names : List ℕ) → names_read look ≡ Some names → (place : ℕ) × (props : List Value) × (build_role_of look ≡ composes place props)
of_component (component place props declaration) names e = (place, props, refl)
of_component look names e = cc

pub small_gives : (ws : List PlainWidget) (s : Progress) → count_in ws ≤ output_limit → small_enough ws s ≡ gives ws s
small_gives ws s small = ap (λ b. cond b (stops output_too_large) (gives ws s)) (le-ltb 65536 (count_in ws) small)

right_here : (b : Blueprint) (r : BuildRole) (place : ℕ) (props : List Value) (w : PlainWidget) (fields was now : List Value) (number : ℕ) (ws : List PlainWidget) (s : Progress)
    → r ≡ composes place props → HasOutput b r w fields was number ws → output_by b r w fields was number ≡ output_by b r w fields now number
    → gives ws s ≡ given_by b r now number fields w s
right_here b (composes i ps) place props w fields was now number ws s e h same =
    let is : ws ≡ b.output i ps (slots_of w) fields now number = h.0 ∙ same in
    sym (ap (λ vs. small_enough vs s) (sym is) ∙ small_gives ws s h.1)
right_here b (provides name value) place props w fields was now number ws s e h same = cc
right_here b (keeps kept) place props w fields was now number ws s e h same = cc
right_here b (lists extent) place props w fields was now number ws s e h same = cc
right_here b holds place props w fields was now number ws s e h same = cc

none_kept : (r : Option (List ℕ)) (w : PlainWidget) (values : List Value) → kept_since r None w values ≡ None
none_kept None w values = refl
none_kept (Some names) w values = refl

module _ (b : Blueprint) (pasts : Pasts) (exact : (v w : PlainWidget) → Decides (is_same_widget v w) (v ≡ w)) (w : PlainWidget) (values : List Value) (long : length values ≡ length b.defaults) where
  module _ (n : PlainNode) (s : Progress) where
    abbrev given : Progress → Step (List PlainWidget)
    given = given_by b (build_role_of (look_of w)) values (number_of n) (fields_of n) w

    kept_right : (names : List ℕ) (p : Past) → names_read (look_of w) ≡ Some names → IsPastOf b n p → is_unchanged names p w values ≡ true → gives p.output s ≡ given s
    kept_right names p e right t =
        let split = both (not p.marked) (is_same_widget p.widget w && reads_alike names p.values values) t in
        let later = both (is_same_widget p.widget w) (reads_alike names p.values values) split.1 in
        let same : p.widget ≡ w = (exact p.widget w).0 later.0 in
        let has = subst (λ v. HasOutput b (build_role_of (look_of v)) v (fields_of n) p.values (number_of n) p.output) same (right.output (not_true p.marked split.0)) in
        let reads = subst (ReadsItsNames b) same right.reads in
        let is = of_component (look_of w) names e in
        right_here b (build_role_of (look_of w)) is.0 is.1 w (fields_of n) p.values values (number_of n) p.output s is.2 has
        (reads names (fields_of n) p.values values (number_of n) e right.long long (read_alike names p.values values later.1))

    by_test : (names : List ℕ) (p : Past) (t : Bool) → (is_unchanged names p w values ≡ true → gives p.output s ≡ given s) → is_unchanged names p w values ≡ t
        → kept_or (cond t (Some p.output) None) given s ≡ given s
    by_test names p true right e = right e
    by_test names p false right e = refl

    by_names : (r : Option (List ℕ)) (p : Option Past) → names_read (look_of w) ≡ r → IfSome p (IsPastOf b n) → kept_or (kept_since r p w values) given s ≡ given s
    by_names None p e right = refl
    by_names (Some names) None e right = refl
    by_names (Some names) (Some p) e right = by_test names p (is_unchanged names p w values) (λ t. kept_right names p e right t) refl

  -- whatever a widget goes on from
  pub kept_same : (partner : Option PlainNode) (s : Progress) → IfSome partner (λ n. IfSome (pasts (number_of n)) (IsPastOf b n))
      → kept_or (kept_output pasts partner w values) (given_by b (build_role_of (look_of w)) values (number_for partner s) (fields_for b w partner) w) (counted partner s)
      ≡ given_by b (build_role_of (look_of w)) values (number_for partner s) (fields_for b w partner) w (counted partner s)
  kept_same None s known =
      ap (λ o. kept_or o (given_by b (build_role_of (look_of w)) values (number_for None s) (fields_for b w None) w) (counted None s)) (none_kept (names_read (look_of w)) w values)
  kept_same (Some n) s known = by_names n (counted (Some n) s) (names_read (look_of w)) (pasts (number_of n)) refl known
