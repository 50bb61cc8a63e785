-- Tests of equality of keys.
use Rattle.std.proofs.Common.{◌≡◌, ℕ, ◌<◌, Bool, true, false, ◌&&◌, Option, Some, None, List, [], ◌∷◌, length, get_or, take, slice_get, refl, sym, ◌∙◌, ap, Decides, arith, length-take, get_or-take}
use Rattle.std.proofs.lemmas.List.Folds.{list_any_at}
use Rattle.std.proofs.lemmas.Option.{slice_get-get_or}
use Rattle.std.specs.List.{list_any}
use Rattle.std.specs.Ordering.{is_eq, eq_by_cmp}
use Rattle.std.specs.declared.cmp.Ordering.{Ordering}
use Rattle.std.specs.declared.cmp.Ordering.TheVariants.{Less, Equal, Greater}
use Rattle.fx_expr.specs.declared.values.Value.{Value}
use Rattle.fx_expr.specs.contracts.values.Value as row
use Rattle.fx_expr.specs.contracts.values.ValueOrd.TheImpl as order
use Rattle.fx_expr.specs.contracts.values.ValueEq.TheImpl as equal
use Rattle.fx_expr.specs.contracts.values.ValuePartialEq.TheImpl as same
use Rattle.fx_expr.specs.contracts.values.ValuePartialOrd.TheImpl as partial
use Rattle.widget_keys.specs.contracts.keys.KeyOrd.TheImpl as keys
use Rattle.fx_expr.specs.Value.{value_eq}
use Rattle.fx_expr.specs.ValueLaws.{order-ties, value_eq-Decides}
use Rattle.widget_keys.specs.declared.keys.Key.{Key}
use Rattle.widget_keys.specs.declared.keys.Key.TheVariants as key
use Rattle.widget_keys.specs.Key.{is_given, keys_equal, repeats_at, is_repeat, IsRepeat}
use Rattle.widget_model.specs.Update.{key_eq}

-- an order that ties exactly where P holds ties where a test of P does
tie_test : (o : Ordering) (b : Bool) {P : Type 0} → (o ≡ Equal → P) × (P → o ≡ Equal) → Decides b P → is_eq o ≡ b
tie_test Less true t d = let e = t.1 (d.0 refl) in cc
tie_test Less false t d = refl
tie_test Equal true t d = refl
tie_test Equal false t d = let e = d.1 (t.0 refl) in cc
tie_test Greater true t d = let e = t.1 (d.0 refl) in cc
tie_test Greater false t d = refl

values_tie : (v w : Value) → is_eq ((order.ghosts).cmp v w) ≡ value_eq v w
values_tie v w = tie_test ((order.ghosts).cmp v w) (value_eq v w) (order-ties v w) (value_eq-Decides v w)

-- the order that keys have, by kind and then by value
abbrev pub key_cmp : Key Value → Key Value → Ordering
key_cmp = (keys.ghosts row.the_row order.ghosts order.dict equal.ghosts equal.dict same.ghosts same.dict partial.ghosts partial.dict).cmp

-- it ties where the keys are equal
pub keys_tie : (a b : Key Value) → is_eq (key_cmp a b) ≡ key_eq a b
keys_tie key.None key.None = refl
keys_tie key.None (key.Local w) = refl
keys_tie key.None (key.Global w) = refl
keys_tie (key.Local v) key.None = refl
keys_tie (key.Local v) (key.Local w) = values_tie v w
keys_tie (key.Local v) (key.Global w) = refl
keys_tie (key.Global v) key.None = refl
keys_tie (key.Global v) (key.Local w) = refl
keys_tie (key.Global v) (key.Global w) = values_tie v w

-- a key is equal to itself by kind and value
pub key_itself : (k : Key Value) → keys_equal value_eq k k ≡ true
key_itself key.None = refl
key_itself (key.Local v) = (value_eq-Decides v v).1 refl
key_itself (key.Global v) = (value_eq-Decides v v).1 refl

-- a key that stands at two places is a repeat at the second
pub stands_twice : (keys : List (Key Value)) (i j : ℕ) (d : Key Value) → i < j → j < length keys → is_given (get_or keys i d) ≡ true → get_or keys i d ≡ get_or keys j d
    → IsRepeat value_eq keys j
stands_twice keys i j d low high given same =
    let first : get_or (take j keys) i d ≡ get_or keys j d = get_or-take j keys i d low ∙ same in
    let before = list_any_at (λ e. keys_equal value_eq (get_or keys j d) e) (take j keys) i d (omega (arith, length-take j keys))
    (ap (λ e. keys_equal value_eq (get_or keys j d) e) first ∙ key_itself (get_or keys j d))
    in
    let g : is_given (get_or keys j d) ≡ true = sym (ap is_given same) ∙ given in
    rw (slice_get-get_or keys j d high, g) before

-- ---- where two tests of values agree, the same keys repeat

any-same : {X : Type 0} (p q : X → Bool) → ((x : X) → p x ≡ q x) → (xs : List X) → list_any p xs ≡ list_any q xs
any-same p q e [] = refl
any-same p q e (x ∷ xs) = let h = e x in let t = any-same p q e xs in cc

module _ {V : Type 0} (p q : V → V → Bool) (agree : (v w : V) → p v w ≡ q v w) where
  equal-same : (a b : Key V) → keys_equal p a b ≡ keys_equal q a b
  equal-same key.None key.None = refl
  equal-same key.None (key.Local w) = refl
  equal-same key.None (key.Global w) = refl
  equal-same (key.Local v) key.None = refl
  equal-same (key.Local v) (key.Local w) = agree v w
  equal-same (key.Local v) (key.Global w) = refl
  equal-same (key.Global v) key.None = refl
  equal-same (key.Global v) (key.Local w) = refl
  equal-same (key.Global v) (key.Global w) = agree v w

  repeats-same : (earlier : List (Key V)) (o : Option (Key V)) → repeats_at p earlier o ≡ repeats_at q earlier o
  repeats-same earlier None = refl
  repeats-same earlier (Some k) = ap (λ b. is_given k && b) (any-same (λ e. keys_equal p k e) (λ e. keys_equal q k e) (λ e. equal-same k e) earlier)

  is_repeat-same : (keys : List (Key V)) (i : ℕ) → is_repeat p keys i ≡ is_repeat q keys i
  is_repeat-same keys i = repeats-same (take i keys) (slice_get keys i)

-- values are equal where their order ties
pub is_repeat-ties : (keys : List (Key Value)) (i : ℕ) → is_repeat (eq_by_cmp (order.ghosts).cmp) keys i ≡ is_repeat value_eq keys i
is_repeat-ties keys i = is_repeat-same (eq_by_cmp (order.ghosts).cmp) value_eq (λ v w. values_tie v w) keys i
