-- What the map of keys has after one more widget.
use Rattle.std.proofs.Common.{◌≡◌, ℕ, ◌+◌, ◌<◌, ◌≤◌, Bool, true, false, cond, IsTrue, Option, Some, None, List, ◌∷◌, [], length, get_or, map, slice_get, Bor, inl, inr, refl, sym, ◌∙◌, ap, subst, arith}
use Rattle.std.specs.Map.{lookup}
use Rattle.std.specs.Option.{option_map}
use Rattle.std.specs.BTreeMap.{BTreeMap, get, Updates}
use Rattle.std.specs.Ordering.{is_eq}
use Rattle.std.specs.declared.cmp.Ordering.{Ordering}
use Rattle.std.specs.declared.rc.Rc.{Rc}
use Rattle.std.specs.declared.alloc.Global.{Global}
use Rattle.std.proofs.lemmas.Bool.{cases_lt}
use Rattle.std.proofs.lemmas.Option.{slice_get-map, slice_get_read, get_or_from_slice_get}
use Rattle.fx_expr.specs.declared.values.Value.{Value}
use Rattle.widget_keys.specs.declared.keys.Key.{Key}
use Rattle.widget_keys.specs.declared.keys.Key.TheVariants as key
use Rattle.widget_keys.specs.Key.{is_given}
use Rattle.widget_model.specs.declared.widgets.Widget.{Widget}
use Rattle.widget_model.specs.Plain.{PlainWidget}
use Rattle.widget_model.specs.View.{plain_of}
use Rattle.widget_model.specs.Plain.{key_of}
use Rattle.reconcile.specs.Places.{HasKeyAt, IsPlaceOf, place_in, ArePlaces}
use Rattle.widget_model.specs.View.{shared}
use Rattle.widget_model.specs.Update.{key_eq}
use Rattle.widget_model.specs.UpdateLaws.{key_eq-Decides}
use Rattle.reconcile.proofs.KeyTests.{key_cmp, keys_tie}

-- the widget that is read at a place
pub seen_widget : (rs : List (Rc Widget Global)) (i : ℕ) (r : Rc Widget Global) → i < length rs → r ≡ get_or rs i r → slice_get (map shared rs) i ≡ Some (plain_of r.value)
seen_widget rs i r below at = slice_get-map shared rs i ∙ ap (option_map shared) (slice_get_read rs (length rs) i r refl below at)

-- the same where it is read through a reference
pub seen_through : (rs : List (Rc Widget Global)) (i : ℕ) (r : Rc Widget Global) (w : Widget) → i < length rs → r ≡ get_or rs i r → w ≡ r.value
    → slice_get (map shared rs) i ≡ Some (plain_of w)
seen_through rs i r w below at same = seen_widget rs i r below at ∙ ap (λ x. Some (plain_of x)) (sym same)

-- and with a default
pub read_at : (rs : List (Rc Widget Global)) (i : ℕ) (r : Rc Widget Global) (w : Widget) (d : PlainWidget) → i < length rs → r ≡ get_or rs i r → w ≡ r.value
    → get_or (map shared rs) i d ≡ plain_of w
read_at rs i r w d below at same = get_or_from_slice_get (map shared rs) i (plain_of w) d (seen_through rs i r w below at same)

-- and its key
pub key_there : (ws : List PlainWidget) (i : ℕ) (w : PlainWidget) → slice_get ws i ≡ Some w → HasKeyAt ws i (key_of w)
key_there ws i w at = slice_get-map key_of ws i ∙ ap (option_map key_of) at

pub one_key : (ws : List PlainWidget) (i : ℕ) (p q : Key Value) → HasKeyAt ws i p → HasKeyAt ws i q → p ≡ q
one_key ws i p q a b = cc

pub given_apart : (q : Key Value) → IsTrue (is_given q) → q ≡ key.None → ⊥
given_apart key.None g e = cc
given_apart (key.Local v) g e = cc
given_apart (key.Global v) g e = cc

module _ (ws : List PlainWidget) (from j : ℕ) (key : Key Value) where
  -- at the next place stands another key
  pub grows_past : (found : Option ℕ) → (HasKeyAt ws j key → ⊥) → IsPlaceOf ws from j key found → IsPlaceOf ws from (j + 1) key found
  grows_past None other none =
      λ k low high at. elim (cases_lt k j) [ inl before ↦ none k low before at | inr after ↦ let e : k ≡ j = omega arith in other (subst (λ n. HasKeyAt ws n key) e at) ]
  grows_past (Some k) other h = let P : k < j = h.1 in (h.0, omega arith, h.2)

  -- at the next place stands this key
  pub found_now : from ≤ j → HasKeyAt ws j key → IsPlaceOf ws from (j + 1) key (Some j)
  found_now low at = (low, omega arith, at)

  pub found_or_past : (here : Key Value) (same : Bool) (before : Option ℕ) → same ≡ key_eq here key → from ≤ j → HasKeyAt ws j here
      → IsPlaceOf ws from j key before → IsPlaceOf ws from (j + 1) key (cond same (Some j) before)
  found_or_past here true before e low at h = found_now low (subst (λ q. HasKeyAt ws j q) ((key_eq-Decides here key).0 (sym e)) at)
  found_or_past here false before e low at h =
      grows_past before (λ other. let t = (key_eq-Decides here key).1 (one_key ws j here key at other) in cc) h

-- tests that agree look up alike
lookup-same : {K X : Type 0} (p q : K → Bool) → ((k : K) → p k ≡ q k) → (es : List (K × X)) → lookup p es ≡ lookup q es
lookup-same p q e [] = refl
lookup-same p q e (x ∷ es) = let h = e x.0 in let t = lookup-same p q e es in cc

-- an absent key changes nothing
pub past_absent : (ws : List PlainWidget) (from j : ℕ) (places : BTreeMap (Bor (Key Value)) ℕ) (here : Key Value)
    → HasKeyAt ws j here → here ≡ key.None → ArePlaces ws from j places → ArePlaces ws from (j + 1) places
past_absent ws from j places here at none h =
    λ q g. grows_past ws from j q (place_in places q) (λ other. given_apart q g (one_key ws j q here other at ∙ none)) (h q g)

-- the order of the map's keys
abbrev pub lent_cmp : Bor (Key Value) → Bor (Key Value) → Ordering
lent_cmp a b = key_cmp a.now b.now

-- what a look-up gives
pub looked_up : (places : BTreeMap (Bor (Key Value)) ℕ) (k : Bor (Key Value)) → get lent_cmp places k ≡ place_in places k.now
looked_up places k = lookup-same (λ s. is_eq (lent_cmp k s)) (λ (s : Bor (Key Value)). key_eq k.now s.now) (λ s. keys_tie k.now s.now) places.entries

-- after a key is stored with its place
pub stored : (ws : List PlainWidget) (from j : ℕ) (before after : BTreeMap (Bor (Key Value)) ℕ) (here : Bor (Key Value))
    → Updates lent_cmp before after here (Some j)
    → from ≤ j → HasKeyAt ws j here.now → ArePlaces ws from j before → ArePlaces ws from (j + 1) after
stored ws from j before after here updates low at h =
    λ q g.
    let k : Bor (Key Value) = record { ref_ptr = (0, 0); now = q } in
    let test = is_eq (lent_cmp here k) in
    let e : place_in after q ≡ cond test (Some j) (place_in before q) = sym (looked_up after k) ∙ updates.0 k ∙ ap (λ o. cond test (Some j) o) (looked_up before k) in
    subst (λ o. IsPlaceOf ws from (j + 1) q o) (sym e) (found_or_past ws from j q here.now test (place_in before q) (keys_tie here.now q) low at (h q g))
