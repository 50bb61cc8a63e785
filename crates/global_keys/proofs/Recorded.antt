-- What a registry's map has for each key.
use Rattle.std.proofs.Common.{◌≡◌, Bool, true, false, cond, Option, Some, None, is_some, option_map, List, [], ◌∷◌, map, filter, length, refl, sym, ap, ◌∙◌, Decides, arith}
use Rattle.std.specs.BTreeMap.{BTreeMap, Updates, IsOrdered}
use Rattle.std.specs.Map.{lookup, keys_of}
use Rattle.std.specs.List.{IsDistinct, AllByRecursion}
use Rattle.std.specs.Ordering.{is_eq, eq_by_cmp}
use Rattle.std.specs.Cmp.{IsEquivalence}
use Rattle.std.specs.declared.cmp.Ordering.{Ordering}
use Rattle.std.specs.declared.cmp.Ordering.TheVariants.{Less, Equal, Greater}
use Rattle.std.proofs.lemmas.Map.Entries.{lookup-filter-values, option_filter}
use Rattle.std.proofs.lemmas.Map.Keys.{IsDistinct-from_sorted}
use Rattle.fx_handles.specs.declared.Handle.{Handle}
use Rattle.fx_expr.specs.declared.values.Value.{Value}
use Rattle.fx_expr.specs.Value.{value_eq}
use Rattle.fx_expr.specs.ValueLaws.{order-ties, value_eq-Decides}
use Rattle.fx_expr.specs.contracts.values.ValueOrd.TheImpl as order
use Rattle.global_keys.specs.declared.registry.Holder.{Holder}

abbrev pub value_cmp : Value → Value → Ordering
value_cmp = (order.ghosts).cmp

-- an order that ties exactly where P holds ties where a test of P does
tie_test : (o : Ordering) (b : Bool) {P : Type 0} → (o ≡ Equal → P) × (P → o ≡ Equal) → Decides b P → is_eq o ≡ b
tie_test Less true t d = let e = t.1 (d.0 refl) in cc
tie_test Less false t d = refl
tie_test Equal true t d = refl
tie_test Equal false t d = let e = d.1 (t.0 refl) in cc
tie_test Greater true t d = let e = t.1 (d.0 refl) in cc
tie_test Greater false t d = refl

pub values_tie : (v w : Value) → is_eq (value_cmp v w) ≡ value_eq v w
values_tie v w = tie_test (value_cmp v w) (value_eq v w) (order-ties v w) (value_eq-Decides v w)

same_bools : (a b : Bool) {P : Type 0} → Decides a P → Decides b P → a ≡ b
same_bools true true p q = refl
same_bools true false p q = let e = q.1 (p.0 refl) in cc
same_bools false true p q = let e = p.1 (q.0 refl) in cc
same_bools false false p q = refl

pub value_eq-turned : (v w : Value) → value_eq v w ≡ value_eq w v
value_eq-turned v w =
    let d = value_eq-Decides w v in
    let turned : Decides (value_eq w v) (v ≡ w) = (λ e. sym (d.0 e), λ e. d.1 (sym e)) in
    same_bools (value_eq v w) (value_eq w v) (value_eq-Decides v w) turned

value_eq-equivalence : IsEquivalence value_eq
value_eq-equivalence = record {
  refl = λ x. (value_eq-Decides x x).1 refl;
  symm = value_eq-turned;
  congr = λ x y z e. ap (λ v. value_eq v z) ((value_eq-Decides x y).0 e);
}

lookup-same : {K X : Type 0} (p q : K → Bool) → ((k : K) → p k ≡ q k) → (es : List (K × X)) → lookup p es ≡ lookup q es
lookup-same p q e [] = refl
lookup-same p q e (x ∷ es) = let h = e x.0 in let t = lookup-same p q e es in cc

pub looked_up : {X : Type 0} (k : Value) (es : List (Value × X)) → lookup (λ j. is_eq (value_cmp k j)) es ≡ lookup (λ j. value_eq k j) es
looked_up k es = lookup-same (λ j. is_eq (value_cmp k j)) (λ j. value_eq k j) (λ j. values_tie k j) es

-- where there is no entry nothing is recorded of any key; and where there is one, something is of its own
pub none_recorded : (es : List (Value × Holder)) → length es ≡ 0 → (k : Value) → lookup (λ j. value_eq k j) es ≡ None
none_recorded [] e k = refl
none_recorded (x ∷ es) e k = absurd (omega (arith, e))

pub nothing_there : (es : List (Value × Holder)) → ((k : Value) → lookup (λ j. value_eq k j) es ≡ None) → length es ≡ 0
nothing_there [] none = refl
nothing_there (x ∷ es) none = absurd (some_none (sym (ap (λ b. cond {A = Option Holder} b (Some x.1) (lookup (λ j. value_eq x.0 j) es)) ((value_eq-Decides x.0 x.0).1 refl)) ∙ none x.0))
  where
    some_none : Some x.1 ≡ None → ⊥
    some_none e = cc

-- one key's entry is another, and each other key has what it had
pub updated : (before after : BTreeMap Value Holder) (g : Value) (w : Option Holder) → Updates value_cmp before after g w
    → (k : Value) → lookup (λ j. value_eq k j) after.entries ≡ cond (value_eq k g) w (lookup (λ j. value_eq k j) before.entries)
updated before after g w updates k =
    let test : is_eq (value_cmp g k) ≡ value_eq k g = values_tie g k ∙ value_eq-turned g k in
    sym (looked_up k after.entries) ∙ updates.0 k ∙ ap (λ b. cond b w (lookup (λ j. is_eq (value_cmp k j)) before.entries)) test ∙ ap (cond (value_eq k g) w) (looked_up k before.entries)

-- the same where the entry that there was is changed
pub changed : (before after : BTreeMap Value Holder) (g : Value) (x : Holder) (change : Holder → Holder) → Updates value_cmp before after g (Some (change x))
    → lookup (λ j. value_eq g j) before.entries ≡ Some x
    → (k : Value) → lookup (λ j. value_eq k j) after.entries ≡ cond (value_eq k g) (option_map change (lookup (λ j. value_eq k j) before.entries)) (lookup (λ j. value_eq k j) before.entries)
changed before after g x change updates was k = by_test (value_eq k g) refl
  where
    by_test : (b : Bool) → value_eq k g ≡ b
        → lookup (λ j. value_eq k j) after.entries ≡ cond (value_eq k g) (option_map change (lookup (λ j. value_eq k j) before.entries)) (lookup (λ j. value_eq k j) before.entries)
    by_test true holds =
        let is_g : k ≡ g = (value_eq-Decides k g).0 holds in
        let here : lookup (λ j. value_eq k j) before.entries ≡ Some x = ap (λ v. lookup (λ j. value_eq v j) before.entries) is_g ∙ was in
        updated before after g (Some (change x)) updates k
        ∙ ap (λ b. cond b (Some (change x)) (lookup (λ j. value_eq k j) before.entries)) holds
        ∙ sym (ap (λ b. cond b (option_map change (lookup (λ j. value_eq k j) before.entries)) (lookup (λ j. value_eq k j) before.entries)) holds ∙ ap (option_map change) here)
    by_test false fails =
        updated before after g (Some (change x)) updates k
        ∙ ap (λ b. cond b (Some (change x)) (lookup (λ j. value_eq k j) before.entries)) fails
        ∙ sym (ap (λ b. cond b (option_map change (lookup (λ j. value_eq k j) before.entries)) (lookup (λ j. value_eq k j) before.entries)) fails)

-- and where there was none
pub unchanged : (es : List (Value × Holder)) (g : Value) (change : Holder → Holder) → lookup (λ j. value_eq g j) es ≡ None
    → (k : Value) → lookup (λ j. value_eq k j) es ≡ cond (value_eq k g) (option_map change (lookup (λ j. value_eq k j) es)) (lookup (λ j. value_eq k j) es)
unchanged es g change none k = by_test (value_eq k g) refl
  where
    by_test : (b : Bool) → value_eq k g ≡ b → lookup (λ j. value_eq k j) es ≡ cond (value_eq k g) (option_map change (lookup (λ j. value_eq k j) es)) (lookup (λ j. value_eq k j) es)
    by_test true holds =
        let here : lookup (λ j. value_eq k j) es ≡ None = ap (λ v. lookup (λ j. value_eq v j) es) ((value_eq-Decides k g).0 holds) ∙ none in
        here ∙ sym (ap (λ b. cond b (option_map change (lookup (λ j. value_eq k j) es)) (lookup (λ j. value_eq k j) es)) holds ∙ ap (option_map change) here)
    by_test false fails = sym (ap (λ b. cond b (option_map change (lookup (λ j. value_eq k j) es)) (lookup (λ j. value_eq k j) es)) fails)

pub kept_by : (o : Option Holder) (b : Bool) → o ≡ cond b (option_map (λ x. x) o) o
kept_by None true = refl
kept_by None false = refl
kept_by (Some x) true = refl
kept_by (Some x) false = refl

-- entries that are all changed
pub lookup-map : (g : Holder → Holder) (k : Value) (es : List (Value × Holder)) → lookup (λ j. value_eq k j) (map (λ (e : Value × Holder). (e.0, g e.1)) es) ≡ option_map g (lookup (λ j. value_eq k j) es)
lookup-map g k [] = refl
lookup-map g k (e ∷ es) = by_test (value_eq k e.0) (lookup-map g k es)
  where
    by_test : (b : Bool) → lookup (λ j. value_eq k j) (map (λ (e : Value × Holder). (e.0, g e.1)) es) ≡ option_map g (lookup (λ j. value_eq k j) es)
        → cond b (Some (g e.1)) (lookup (λ j. value_eq k j) (map (λ (e : Value × Holder). (e.0, g e.1)) es)) ≡ option_map g (cond b (Some e.1) (lookup (λ j. value_eq k j) es))
    by_test true rest = refl
    by_test false rest = rest

-- entries of which those stay that pass
AllByRecursion-same : {K : Type 0} (p q : K → Bool) → ((k : K) → p k ≡ q k) → (ks : List K) → AllByRecursion (λ k. p k ≡ false) ks → AllByRecursion (λ k. q k ≡ false) ks
AllByRecursion-same p q e [] all = tt
AllByRecursion-same p q e (k ∷ ks) all = (sym (e k) ∙ all.0, AllByRecursion-same p q e ks all.1)

distinct_values : (ks : List Value) → IsDistinct (eq_by_cmp value_cmp) ks → IsDistinct value_eq ks
unfolding IsDistinct
distinct_values [] distinct = distinct
distinct_values (k ∷ ks) distinct = (AllByRecursion-same (eq_by_cmp value_cmp k) (value_eq k) (values_tie k) ks distinct.0, distinct_values ks distinct.1)

pub lookup-kept : (before : BTreeMap Value Holder) (after : List (Value × Holder)) (p : Holder → Bool) → IsOrdered value_cmp before → after ≡ filter (λ (e : Value × Holder). p e.1) before.entries
    → (k : Value) → lookup (λ j. value_eq k j) after ≡ option_filter p (lookup (λ j. value_eq k j) before.entries)
lookup-kept before after p ordered kept k =
    ap (lookup (λ j. value_eq k j)) kept
    ∙ lookup-filter-values value_eq-equivalence p k before.entries (distinct_values (keys_of before.entries) (IsDistinct-from_sorted value_cmp (keys_of before.entries) ordered))

-- what is recorded once the entries of dead elements are removed
pub filtered_live : (p : Holder → Bool) (o after : Option Holder) (h : Handle) → after ≡ option_filter p o → option_map (λ (x : Holder). x.node) o ≡ Some h
    → ((x : Holder) → x.node ≡ h → p x ≡ true) → after ≡ o
filtered_live p None after h e is passes = absurd (cc)
filtered_live p (Some x) after h e is passes =
    let same : Some x.node ≡ Some h = is in
    let is_h : x.node ≡ h = cc in
    e ∙ ap (λ b. cond b (Some x) None) (passes x is_h)

pub filtered_dead : (p : Holder → Bool) (o after : Option Holder) (h : Handle) → after ≡ option_filter p o → option_map (λ (x : Holder). x.node) o ≡ Some h
    → ((x : Holder) → x.node ≡ h → p x ≡ false) → after ≡ None
filtered_dead p None after h e is fails = e
filtered_dead p (Some x) after h e is fails =
    let same : Some x.node ≡ Some h = is in
    let is_h : x.node ≡ h = cc in
    e ∙ ap (λ b. cond b (Some x) None) (fails x is_h)

pub filtered_was : (p : Holder → Bool) (o after : Option Holder) (h : Handle) → after ≡ option_filter p o → option_map (λ (x : Holder). x.node) after ≡ Some h
    → (option_map (λ (x : Holder). x.node) o ≡ Some h) × ((x : Holder) × (x.node ≡ h) × (p x ≡ true))
filtered_was p None after h e is = absurd (let none = ap (option_map (λ (x : Holder). x.node)) e in let both = sym none ∙ is in cc)
filtered_was p (Some x) after h e is = by_test (p x) refl
  where
    by_test : (b : Bool) → p x ≡ b → (option_map (λ (x : Holder). x.node) (Some x) ≡ Some h) × ((y : Holder) × (y.node ≡ h) × (p y ≡ true))
    by_test true holds =
        let kept : after ≡ Some x = e ∙ ap (λ b. cond b (Some x) None) holds in
        let there : Some x.node ≡ Some h = sym (ap (option_map (λ (x : Holder). x.node)) kept) ∙ is in
        let is_h : x.node ≡ h = cc in
        (there, (x, is_h, holds))
    by_test false fails = absurd (let gone : after ≡ None = e ∙ ap (λ b. cond b (Some x) None) fails in let both = sym (ap (option_map (λ (x : Holder). x.node)) gone) ∙ is in cc)

pub filtered_none : (p : Holder → Bool) (o after : Option Holder) → after ≡ option_filter p o → o ≡ None → after ≡ None
filtered_none p o after e nothing = e ∙ ap (option_filter p) nothing

-- whether an element is there, as a test
pub live_test : {X : Type 0} (at : Handle → Option X) (h : Handle) (x : Holder) → x.node ≡ h → is_some (at h) ≡ true → is_some (at x.node) ≡ true
live_test at h x same live = ap (λ k. is_some (at k)) same ∙ live

pub dead_test : {X : Type 0} (at : Handle → Option X) (h : Handle) (x : Holder) → x.node ≡ h → (is_some (at h) ≡ true → ⊥) → is_some (at x.node) ≡ false
dead_test at h x same dead = ap (λ k. is_some (at k)) same ∙ by_test (is_some (at h)) dead
  where
    by_test : (b : Bool) → (b ≡ true → ⊥) → b ≡ false
    by_test true dead = absurd (dead refl)
    by_test false dead = refl
