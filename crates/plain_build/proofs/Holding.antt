-- Which node had a global key, by a map of the nodes so far.
use Rattle.std.proofs.Common.{◌≡◌, ℕ, suc, ◌<◌, Bool, true, false, cond, not, Option, Some, List, [], ◌∷◌, length, map, drop, drop-cons, get_or, Bor, refl, sym, ap, ◌∙◌, Decides}
use Rattle.std.specs.List.{find}
use Rattle.std.specs.Option.{option_or}
use Rattle.std.specs.BTreeMap.{BTreeMap, Updates}
use Rattle.std.specs.Map.{lookup}
use Rattle.std.specs.Ordering.{is_eq}
use Rattle.std.specs.declared.cmp.Ordering.{Ordering}
use Rattle.std.proofs.lemmas.List.{get_or-map, length-map}
use Rattle.fx_expr.specs.declared.values.Value.{Value}
use Rattle.fx_expr.specs.Value.{value_eq}
use Rattle.fx_expr.specs.ValueLaws.{value_eq-Decides}
use Rattle.fx_expr.specs.contracts.values.ValueOrd.TheImpl as order
use Rattle.widget_keys.specs.declared.keys.Key.{Key}
use Rattle.widget_keys.specs.declared.keys.Key.TheVariants as key
use Rattle.widget_model.specs.Plain.{key_of}
use Rattle.widget_model.specs.Update.{key_eq}
use Rattle.reconcile.proofs.KeyTests.{keys_tie}
use Rattle.plain_tree.specs.PlainNode.{PlainNode, widget_of}
use Rattle.plain_tree.specs.States.{seen}
use Rattle.build_form.specs.Partner.{has_global}
use Rattle.build_form.specs.Lent.{lent}
use Rattle.plain_build.specs.PartnerView.{held}

abbrev pub value_cmp : Value → Value → Ordering
value_cmp = (order.ghosts).cmp

-- the order of values ties where they are equal
pub values_tie : (v w : Value) → is_eq (value_cmp v w) ≡ value_eq v w
values_tie v w = keys_tie (key.Local v) (key.Local w)

same_bools : (a b : Bool) {P : Type 0} → Decides a P → Decides b P → a ≡ b
same_bools true true p q = refl
same_bools true false p q = let e = q.1 (p.0 refl) in cc
same_bools false true p q = let e = p.1 (q.0 refl) in cc
same_bools false false p q = refl

pub value_eq-turned : (v w : Value) → value_eq v w ≡ value_eq w v
value_eq-turned v w =
    let d = value_eq-Decides w v in
    let turned : Decides (value_eq w v) (v ≡ w) = (λ e. sym (d.0 e), λ e. d.1 (sym e)) in
    same_bools (value_eq v w) (value_eq w v) (value_eq-Decides v w) turned

lookup-same : {K X : Type 0} (p q : K → Bool) → ((k : K) → p k ≡ q k) → (es : List (K × X)) → lookup p es ≡ lookup q es
lookup-same p q e [] = refl
lookup-same p q e (x ∷ es) = let h = e x.0 in let t = lookup-same p q e es in cc

pub looked_up : {X : Type 0} (k : Value) (es : List (Value × X)) → lookup (λ j. is_eq (value_cmp k j)) es ≡ lookup (λ j. value_eq k j) es
looked_up k es = lookup-same (λ j. is_eq (value_cmp k j)) (λ j. value_eq k j) (λ j. values_tie k j) es

lent_of : (b : Bool) (n : Bor PlainNode) (m : Option (Bor PlainNode)) → lent (cond b (Some n) m) ≡ cond b (Some n.now) (lent m)
lent_of true n m = refl
lent_of false n m = refl

first_when : (b : Bool) (n : PlainNode) (m o : Option PlainNode) → cond b (Some n) (option_or m o) ≡ option_or (cond b (Some n) m) o
first_when true n m o = refl
first_when false n m o = refl

module _ (nodes : List (Bor PlainNode)) (i rest : ℕ) (n : Bor PlainNode) (within : i < length nodes) (is_rest : rest ≡ suc i) (at : n ≡ get_or nodes i n) where
  front : drop i (map seen nodes) ≡ n.now ∷ drop rest (map seen nodes)
  front =
      drop-cons (map seen nodes) i n.now (rw length-map within)
      ∙ ap (λ m. m ∷ drop (suc i) (map seen nodes)) (get_or-map seen nodes i n n.now within ∙ ap seen (sym at))
      ∙ ap (λ r. n.now ∷ drop r (map seen nodes)) (sym is_rest)

  module _ (before : BTreeMap Value (Bor PlainNode)) (old : Value → Option PlainNode)
      (so_far : (k : Value) → held before k ≡ option_or (find (has_global k) (drop rest (map seen nodes))) (old k)) where
    -- a node with a global key stands before those that were looked at
    pub held_more : (g : Value) (after : BTreeMap Value (Bor PlainNode)) → key_of (widget_of n.now) ≡ key.Global g → Updates value_cmp before after g (Some n)
        → (k : Value) → held after k ≡ option_or (find (has_global k) (drop i (map seen nodes))) (old k)
    held_more g after has updates k =
        let t = value_eq k g in
        let test : is_eq (value_cmp g k) ≡ t = values_tie g k ∙ value_eq-turned g k in
        let here : has_global k n.now ≡ t = ap (key_eq (key.Global k)) has in
        ap lent (sym (looked_up k after.entries) ∙ updates.0 k ∙ ap (λ b. cond b (Some n) (lookup (λ j. is_eq (value_cmp k j)) before.entries)) test ∙ ap (cond t (Some n)) (looked_up k before.entries))
        ∙ lent_of t n (lookup (λ j. value_eq k j) before.entries)
        ∙ ap (cond t (Some n.now)) (so_far k)
        ∙ first_when t n.now (find (has_global k) (drop rest (map seen nodes))) (old k)
        ∙ ap (λ b. option_or (cond b (Some n.now) (find (has_global k) (drop rest (map seen nodes)))) (old k)) (sym here)
        ∙ sym (ap (λ l. option_or (find (has_global k) l) (old k)) front)

    -- a node without one is passed by
    pub held_past : ((k : Value) → has_global k n.now ≡ false) → (k : Value) → held before k ≡ option_or (find (has_global k) (drop i (map seen nodes))) (old k)
    held_past none k =
        so_far k
        ∙ ap (λ b. option_or (cond b (Some n.now) (find (has_global k) (drop rest (map seen nodes)))) (old k)) (sym (none k))
        ∙ sym (ap (λ l. option_or (find (has_global k) l) (old k)) front)

-- a key that isn't global
pub not_global : (k : Key Value) → ((v : Value) → k ≡ key.Global v → ⊥) → (v : Value) → key_eq (key.Global v) k ≡ false
not_global key.None not v = refl
not_global (key.Local w) not v = refl
not_global (key.Global w) not v = absurd (not w refl)
