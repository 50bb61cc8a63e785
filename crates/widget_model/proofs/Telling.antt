-- What the comparison of parts says of widgets.
use Rattle.std.proofs.Common.{◌≡◌, ◌≢◌, ◌↔◌, ℕ, zero, suc, ◌<◌, IsTrue, true, false, List, [], ◌∷◌, ◌++◌, length, get_or, refl, sym, ap, ◌∙◌, arith, ◌⊎◌, inl, inr}
use Rattle.std.proofs.lemmas.List.{length-append, same_lists}
use Rattle.widget_model.specs.declared.widgets.Widget.{Widget}
use Rattle.widget_model.specs.Plain.{PlainWidget, plain, widgets_of, list_of, look_of, key_of, slots_of, children_of}
use Rattle.widget_model.specs.Size.{count_of}
use Rattle.widget_model.specs.Parts.{parts_in, IsSameHead, AgreeBut}
use Rattle.widget_model.specs.View.{plain_of, slots_in}
use Rattle.widget_model.specs.PlainLaws.{list_of-widgets_of, counts_of-widgets_of}
use Rattle.widget_model.proofs.Counting.{count_in-append, counted_within}

slots_same : (a b : Widget) → plain_of a ≡ plain_of b → slots_in a.kind ≡ slots_in b.kind
slots_same a b same = sym (list_of-widgets_of (slots_in a.kind)) ∙ ap slots_of same ∙ list_of-widgets_of (slots_in b.kind)

children_same : (a b : Widget) → plain_of a ≡ plain_of b → a.children ≡ b.children
children_same a b same = sym (list_of-widgets_of a.children) ∙ ap children_of same ∙ list_of-widgets_of b.children

parts_same : (a b : Widget) → plain_of a ≡ plain_of b → parts_in a ≡ parts_in b
parts_same a b same i = slots_same a b same i ++ children_same a b same i

-- lists of one length that are followed by something are equal with it exactly where both are
fronts_same : (us vs ws xs : List PlainWidget) → length us ≡ length vs → us ++ ws ≡ vs ++ xs → (us ≡ vs) × (ws ≡ xs)
fronts_same [] [] ws xs long same = (refl, same)
fronts_same (u ∷ us) (v ∷ vs) ws xs long same =
    let heads : u ≡ v = cc in
    let tails = fronts_same us vs ws xs (omega (arith, long)) (cc) in
    (λ i. heads i ∷ tails.0 i, tails.1)
fronts_same [] (v ∷ vs) ws xs long same = absurd (omega (arith, long))
fronts_same (u ∷ us) [] ws xs long same = absurd (omega (arith, long))

-- equal widgets have equal heads
pub head_follows : (a b : Widget) → plain_of a ≡ plain_of b → IsSameHead a b
head_follows a b same = record {
  key = ap key_of same;
  look = ap look_of same;
  slots = ap length (slots_same a b same);
  children = ap length (children_same a b same);
}

-- widgets with equal heads and equal parts are equal
pub parts_suffice : (a b : Widget) → IsSameHead a b → parts_in a ≡ parts_in b → plain_of a ≡ plain_of b
parts_suffice a b head parts =
    let both = fronts_same (slots_in a.kind) (slots_in b.kind) a.children b.children head.slots parts in
    λ i. plain (head.look i) (head.key i) (widgets_of (both.0 i)) (widgets_of (both.1 i))

parts_as_many : (a b : Widget) → IsSameHead a b → length (parts_in a) ≡ length (parts_in b)
parts_as_many a b head =
    omega (arith, head.slots, head.children, length-append (slots_in a.kind) a.children, length-append (slots_in b.kind) b.children)

abbrev same_or_not : (m n : ℕ) → (m ≡ n) ⊎ (m ≢ n)
same_or_not zero zero = inl refl
same_or_not zero (suc n) = inr (λ e. omega (arith, e))
same_or_not (suc m) zero = inr (λ e. omega (arith, e))
same_or_not (suc m) (suc n) = elim (same_or_not m n) [ inl e ↦ inl (ap suc e) | inr h ↦ inr (λ e. h (omega (arith, e))) ]

-- within a list it doesn't matter what stands for what is missing
any_default : (ws : List PlainWidget) (i : ℕ) (d e : PlainWidget) → i < length ws → get_or ws i d ≡ get_or ws i e
any_default [] i d e below = absurd (omega arith)
any_default (w ∷ ws) zero d e below = refl
any_default (w ∷ ws) (suc i) d e below = any_default ws i d e (omega arith)

at_each : (a b : Widget) (place i : ℕ) (d : PlainWidget) → AgreeBut place (parts_in a) (parts_in b) → i < length (parts_in a)
    → get_or (parts_in a) place d ≡ get_or (parts_in b) place d → get_or (parts_in a) i d ≡ get_or (parts_in b) i d
at_each a b place i d rest below here =
    elim (same_or_not i place) [
      | inl e ↦ ap (λ k. get_or (parts_in a) k d) e ∙ here ∙ sym (ap (λ k. get_or (parts_in b) k d) e)
      | inr other ↦ rest i d below other
    ]

-- where all else agrees, two widgets are the same exactly where the parts at one place are
pub part_decides : (a b v w : Widget) (place : ℕ) → IsSameHead a b → AgreeBut place (parts_in a) (parts_in b) → place < length (parts_in a)
    → plain_of v ≡ get_or (parts_in a) place (plain_of v) → plain_of w ≡ get_or (parts_in b) place (plain_of w)
    → (plain_of v ≡ plain_of w) ↔ (plain_of a ≡ plain_of b)
part_decides a b v w place head rest within is_v is_w =
    let long = parts_as_many a b head in
    let in_b : place < length (parts_in b) = omega (arith, long) in
    let seen_a = λ (d : PlainWidget). any_default (parts_in a) place d (plain_of v) within ∙ sym is_v in
    let seen_b = λ (d : PlainWidget). any_default (parts_in b) place d (plain_of w) in_b ∙ sym is_w in (
      λ same. parts_suffice a b head (same_lists (parts_in a) (parts_in b) long (λ i d below. at_each a b place i d rest below (seen_a d ∙ same ∙ sym (seen_b d)))),
      λ same. sym (seen_a (plain_of v)) ∙ ap (λ ws. get_or ws place (plain_of v)) (parts_same a b same) ∙ seen_b (plain_of v),
    )

module _ (l r : Widget) (P : Type 0) (carried : (plain_of l ≡ plain_of r) ↔ P) where
  -- two heads that differ tell
  pub heads_differ : IsTrue false ↔ IsSameHead l r → IsTrue false ↔ P
  heads_differ h = (λ t. cc, λ p. h.1 (head_follows l r (carried.1 p)))

  -- equal heads of widgets without parts suffice
  pub no_parts : IsTrue true ↔ IsSameHead l r → length (parts_in l) ≡ 0 → IsTrue true ↔ P
  no_parts h none =
      let head = h.0 refl in
      let long = parts_as_many l r head in
      (λ t. carried.0 (parts_suffice l r head (same_lists (parts_in l) (parts_in r) long (λ i d below. absurd (omega arith)))), λ p. refl)

  -- parts that differ tell
  pub parts_differ : (place : ℕ) → IsTrue false ↔ AgreeBut place (parts_in l) (parts_in r) → IsTrue false ↔ P
  parts_differ place h = (λ t. cc, λ p. h.1 (λ i d below other. ap (λ ws. get_or ws i d) (parts_same l r (carried.1 p))))

-- a part is less than the widget
pub part_fewer : (w v : Widget) (place : ℕ) → place < length (parts_in w) → plain_of v ≡ get_or (parts_in w) place (plain_of v)
    → count_of (plain_of v) < count_of (plain_of w)
part_fewer w v place within is =
    let held = counted_within (parts_in w) place (plain_of v) within in
    let all = count_in-append (slots_in w.kind) w.children in
    omega (arith, held, all, ap count_of is, counts_of-widgets_of (slots_in w.kind), counts_of-widgets_of w.children)
