-- What a layout reads of two kinds.
use Rattle.std.proofs.Common.{◌≡◌, ◌↔◌, ◌&&◌, ℕ, Bool, true, false, IsTrue, List, [], ◌∷◌, Option, eqb, eqb-true, eq-eqb, refl, sym, ap, ◌∙◌}
use Rattle.std.proofs.lemmas.Bool.{and_parts, and_from, false≢true}
use lib.Pointwise.{pointwise}
use mathlib.Core.Bool.{beq}
use Rattle.fx_handles.specs.declared.Handle.{Handle}
use Rattle.fx_handles.specs.Handle.{same}
use Rattle.fx_handles.specs.HandleLaws.{same-true, same_self}
use Rattle.fx_geom.specs.declared.words.Placed.{Placed}
use Rattle.plain_tree.specs.declared.render.ParentData.{ParentData}
use Rattle.widget_model.specs.Look.{Look, colored_box, text, opacity, ignore_pointer, absorb_pointer, detector, semantics, exclude_semantics}
use Rattle.work_roles.specs.ForLayout.{for_layout}
use Rattle.render_tree.specs.Unread.{is_coloured, is_pointed, is_said}

coloured_same : (l : Look) → is_coloured (for_layout l) ≡ is_coloured l
coloured_same (colored_box color) = refl
coloured_same l = refl

pointed_same : (l : Look) → is_pointed (for_layout l) ≡ is_pointed l
pointed_same (ignore_pointer ignoring) = refl
pointed_same l = refl

said_same : (l : Look) → is_said (for_layout l) ≡ is_said l
said_same (exclude_semantics excluding) = refl
said_same l = refl

-- a kind of which a layout reads every member
all_read : (l : Look) → is_coloured l ≡ false → is_pointed l ≡ false → is_said l ≡ false → for_layout l ≡ l
all_read (colored_box color) c p s = absurd (cc)
all_read (text words color) c p s = absurd (cc)
all_read (opacity alpha) c p s = absurd (cc)
all_read (ignore_pointer ignoring) c p s = absurd (cc)
all_read (absorb_pointer absorbing) c p s = absurd (cc)
all_read (detector how tap long vertical horizontal pan) c p s = absurd (cc)
all_read (semantics label button container) c p s = absurd (cc)
all_read (exclude_semantics excluding) c p s = absurd (cc)
all_read l c p s = refl

pub read_whole : (r : Bool) (a b : Look) → is_coloured a ≡ false → is_pointed a ≡ false → is_said a ≡ false → IsTrue r ↔ (a ≡ b) → IsTrue r ↔ (for_layout a ≡ for_layout b)
read_whole r a b c p s same = (
  λ e. ap for_layout (same.0 e),
  λ e.
      let whole = all_read a c p s in
      let to : a ≡ for_layout b = sym whole ∙ e in
      same.1 (to ∙ all_read b (sym (coloured_same b) ∙ (sym (ap is_coloured to) ∙ c)) (sym (pointed_same b) ∙ (sym (ap is_pointed to) ∙ p)) (sym (said_same b) ∙ (sym (ap is_said to) ∙ s))),
)

-- ---- lists of handles

pub handles_equal : (E : Handle → Handle → Bool) → ((h k : Handle) → E h k ≡ same h k) → (xs ys : List Handle) → pointwise E xs ys ≡ true → xs ≡ ys
handles_equal E is [] [] e = refl
handles_equal E is [] (y ∷ ys) e = absurd (false≢true e)
handles_equal E is (x ∷ xs) [] e = absurd (false≢true e)
handles_equal E is (x ∷ xs) (y ∷ ys) e =
    let parts = and_parts (E x y) (pointwise E xs ys) e in
    ap (λ h. h ∷ xs) (same-true x y (sym (is x y) ∙ parts.0)) ∙ ap (λ l. y ∷ l) (handles_equal E is xs ys parts.1)

pub handles_alike : (E : Handle → Handle → Bool) → ((h k : Handle) → E h k ≡ same h k) → (xs : List Handle) → pointwise E xs xs ≡ true
handles_alike E is [] = refl
handles_alike E is (x ∷ xs) = and_from (E x x) (pointwise E xs xs) (is x x ∙ same_self x) (handles_alike E is xs)

pub same_list : (E : Handle → Handle → Bool) → ((h k : Handle) → E h k ≡ same h k) → (r : Bool) (xs ys us vs : List Handle) → r ≡ pointwise E xs ys → xs ≡ us → ys ≡ vs → IsTrue r ↔ (us ≡ vs)
same_list E is r xs ys us vs e a b = (
  λ t. sym a ∙ (handles_equal E is xs ys (sym e ∙ t) ∙ b),
  λ s. e ∙ (ap (pointwise E xs) (b ∙ (sym s ∙ sym a)) ∙ handles_alike E is xs),
)

-- ---- parent data

pub beq-true : (a b : Bool) → beq a b ≡ true → a ≡ b
beq-true true true e = refl
beq-true true false e = sym e
beq-true false true e = e
beq-true false false e = refl

pub beq-same : (a : Bool) → beq a a ≡ true
beq-same true = refl
beq-same false = refl

pub same_data : (r p : Bool) (a b : ParentData) → r ≡ (eqb a.flex b.flex && (beq a.tight b.tight && (p && eqb a.index b.index))) → IsTrue p ↔ (a.placed ≡ b.placed) → IsTrue r ↔ (a ≡ b)
same_data r p a b e placed = (
  λ t.
      let one = and_parts (eqb a.flex b.flex) (beq a.tight b.tight && (p && eqb a.index b.index)) (sym e ∙ t) in
      let two = and_parts (beq a.tight b.tight) (p && eqb a.index b.index) one.1 in
      let three = and_parts p (eqb a.index b.index) two.1 in
      let make : ℕ → Bool → Option Placed → ℕ → ParentData = λ f t q i. record { flex = f; tight = t; placed = q; index = i } in
      ap (λ x. make x a.tight a.placed a.index) (eqb-true a.flex b.flex one.0)
      ∙ (ap (λ x. make b.flex x a.placed a.index) (beq-true a.tight b.tight two.0)
      ∙ (ap (λ x. make b.flex b.tight x a.index) (placed.0 three.0) ∙ ap (λ x. make b.flex b.tight b.placed x) (eqb-true a.index b.index three.1))),
  λ s.
      e
      ∙ and_from (eqb a.flex b.flex) (beq a.tight b.tight && (p && eqb a.index b.index)) (eq-eqb a.flex b.flex (ap (λ x. x.flex) s))
      (and_from (beq a.tight b.tight) (p && eqb a.index b.index) (ap (λ x. beq a.tight x) (sym (ap (λ y. y.tight) s)) ∙ beq-same a.tight)
      (and_from p (eqb a.index b.index) (placed.1 (ap (λ x. x.placed) s)) (eq-eqb a.index b.index (ap (λ x. x.index) s)))),
)
