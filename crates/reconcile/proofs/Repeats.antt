-- No key repeats in a list of widgets exactly where none of their keys is a repeat.
use Rattle.std.proofs.Common.{◌≡◌, ℕ, ◌<◌, Bool, true, false, ◌&&◌, IsTrue, Option, Some, None, option_map, List, length, get_or, take, map, slice_get, refl, sym, ap, ◌∙◌, arith, length-take, get_or-take}
use Rattle.std.specs.List.{list_any}
use Rattle.std.proofs.lemmas.List.{length-map, get_or-map}
use Rattle.std.proofs.lemmas.List.Folds.{Any-from_list_any}
use Rattle.std.proofs.lemmas.Option.{slice_get-map, slice_get_within, get_or_from_slice_get}
use Rattle.fx_expr.specs.declared.values.Value.{Value}
use Rattle.fx_expr.specs.Value.{value_eq}
use Rattle.widget_keys.specs.declared.keys.Key.{Key}
use Rattle.widget_keys.specs.Key.{is_given, keys_equal, repeats_at, IsRepeat}
use Rattle.widget_model.specs.Plain.{PlainWidget, key_of}
use Rattle.widget_model.specs.UpdateLaws.{key_eq-Decides}
use Rattle.reconcile.specs.Keys.{NoKeyRepeats}
use Rattle.reconcile.proofs.KeyTests.{stands_twice}

both : (a b : Bool) → IsTrue (a && b) → (a ≡ true) × (b ≡ true)
both true b h = (refl, h)
both false b h = cc

module _ (ws : List PlainWidget) where
  abbrev keys : List (Key Value)
  keys = map key_of ws

  pub all_differ : ((k : ℕ) → IsRepeat value_eq (map key_of ws) k → ⊥) → NoKeyRepeats ws
  all_differ none = λ i j d low high given same.
      let n = length-map ws key_of in
      let at_i = get_or-map key_of ws i d (key_of d) (omega arith) in
      let at_j = get_or-map key_of ws j d (key_of d) high in
      none j (stands_twice _ i j (key_of d) low (omega arith) (ap is_given at_i ∙ given) (at_i ∙ same ∙ sym at_j))

  module _ (apart : NoKeyRepeats ws) (k : ℕ) where
    -- the widget at k has the key of an earlier one
    meets : (w : PlainWidget) → slice_get ws k ≡ Some w → is_given (key_of w) ≡ true → (i : ℕ) (x : Key Value) → i < length (take k keys)
        → get_or (take k keys) i x ≡ x → keys_equal value_eq (key_of w) x ≡ true → ⊥
    meets w at given i x below is equal =
        let n = length-map ws key_of in
        let t = length-take k keys in
        let high = slice_get_within ws k w at in
        let low : i < k = omega (arith, t) in
        let same : key_of w ≡ x = (key_eq-Decides (key_of w) x).0 equal in
        let first : key_of (get_or ws i w) ≡ x = sym (get_or-map key_of ws i w x (omega (arith, t))) ∙ sym (get_or-take k keys i x low) ∙ is in
        let here : key_of (get_or ws k w) ≡ key_of w = ap key_of (get_or_from_slice_get ws k w w at) in
        apart i k w low high (ap is_given (first ∙ sym same) ∙ given) (first ∙ sym same ∙ sym here)

    none_at : (o : Option PlainWidget) → slice_get ws k ≡ o → IsTrue (repeats_at value_eq (take k keys) (option_map key_of o)) → ⊥
    none_at None at r = cc
    none_at (Some w) at r =
        let b = both (is_given (key_of w)) (list_any (λ e. keys_equal value_eq (key_of w) e) (take k keys)) r in
        let f = Any-from_list_any (λ e. keys_equal value_eq (key_of w) e) (take k keys) b.1 in
        meets w at b.0 f.0 f.1 f.2 f.3 f.4

    pub none_is_found : IsRepeat value_eq (map key_of ws) k → ⊥
    none_is_found r = none_at (slice_get ws k) refl (sym (ap (repeats_at value_eq (take k keys)) (slice_get-map key_of ws k)) ∙ r)
