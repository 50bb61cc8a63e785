-- What expressions give depends on the inherited values that they read.
use Rattle.std.proofs.Common.{◌≡◌, ℕ, zero, suc, ◌+◌, ◌<◌, ◌≤◌, Bool, true, false, ◌||◌, cond, length, List, ◌∷◌, filter, refl, sym, ap, ◌∙◌, arith, ◌⊎◌, inl, inr}
use Rattle.std.specs.Cmp.{unsigned_Decides}
use Rattle.std.proofs.lemmas.Bool.{cases_eq, cases_lt}
use Rattle.std.proofs.lemmas.List.{get_or_past}
use Rattle.std.specs.List.{range_with_len}
use Rattle.fx_expr.specs.declared.values.Value.{Value}
use Rattle.fx_expr.specs.Exp.{Exp, literal, field, prop, variable, inherited, event_dx, event_dy, ints, texts, add, subtract, multiply, divide, rest, equal, less, both, either, negated, choose, cat, len, item, push, without, reversed, range, show, Exps, no_exps, exp}
use Rattle.fx_expr.specs.Scope.{Env, value_at}
use Rattle.fx_expr.specs.ValueOf.{value_of, values_of}
use Rattle.fx_expr.specs.Closed.{closed, all_closed}
use Rattle.fx_expr.specs.SomeForm.{reads_inherited, some_form_of_each, is_inherited}
use Rattle.build_walk.specs.Reading.{AgreeAt}

-- a scope with other inherited values
abbrev pub seeing : List Value → Env → Env
seeing values s = record { fields = s.fields; props = s.props; vars = s.vars; inherited = values; dx = s.dx; dy = s.dy }

pub or_left : (a b : Bool) → a ≡ true → (a || b) ≡ true
or_left true b h = refl
or_left false b h = cc

pub or_right : (a b : Bool) → b ≡ true → (a || b) ≡ true
or_right true b h = refl
or_right false b h = h

pub itself : (i : ℕ) → is_inherited i (inherited i) ≡ true
itself i = (unsigned_Decides i i).1 refl

either_way : {A B P : Type 0} → A ⊎ B → (A → P) → (B → P) → P
either_way (inl a) f g = f a
either_way (inr b) f g = g b

differ_above : (a i : ℕ) → a ≤ i → (i ≡ a → ⊥) → a + 1 ≤ i
differ_above a i low d = omega arith

-- ---- two lists of values

module _ (was now : List Value) where
  -- the same value of each name that passes a test
  abbrev pub Agree : (ℕ → Bool) → Type 0
  Agree reads = (i : ℕ) → reads i ≡ true → value_at was i ≡ value_at now i

  pub left : (p q : ℕ → Bool) → Agree (λ i. p i || q i) → Agree p
  left p q h = λ i r. h i (or_left (p i) (q i) r)

  pub right : (p q : ℕ → Bool) → Agree (λ i. p i || q i) → Agree q
  right p q h = λ i r. h i (or_right (p i) (q i) r)

  abbrev reads_in : Exp → ℕ → Bool
  reads_in e i = reads_inherited i e

  abbrev reads_in_each : Exps → ℕ → Bool
  reads_in_each es i = some_form_of_each (is_inherited i) es

  mutual
    pub value_same : (e : Exp) → Agree (reads_in e) → (s : Env) → value_of e (seeing was s) ≡ value_of e (seeing now s)
    value_same (literal v) h s = refl
    value_same (field i) h s = refl
    value_same (prop i) h s = refl
    value_same (variable i) h s = refl
    value_same (inherited i) h s = h i (itself i)
    value_same event_dx h s = refl
    value_same event_dy h s = refl
    value_same (ints es) h s = rw (values_same es h s) refl
    value_same (texts es) h s = rw (values_same es h s) refl
    value_same (add a b) h s = rw (value_same a (left (reads_in a) (reads_in b) h) s, value_same b (right (reads_in a) (reads_in b) h) s) refl
    value_same (subtract a b) h s = rw (value_same a (left (reads_in a) (reads_in b) h) s, value_same b (right (reads_in a) (reads_in b) h) s) refl
    value_same (multiply a b) h s = rw (value_same a (left (reads_in a) (reads_in b) h) s, value_same b (right (reads_in a) (reads_in b) h) s) refl
    value_same (divide a b) h s = rw (value_same a (left (reads_in a) (reads_in b) h) s, value_same b (right (reads_in a) (reads_in b) h) s) refl
    value_same (rest a b) h s = rw (value_same a (left (reads_in a) (reads_in b) h) s, value_same b (right (reads_in a) (reads_in b) h) s) refl
    value_same (equal a b) h s = rw (value_same a (left (reads_in a) (reads_in b) h) s, value_same b (right (reads_in a) (reads_in b) h) s) refl
    value_same (less a b) h s = rw (value_same a (left (reads_in a) (reads_in b) h) s, value_same b (right (reads_in a) (reads_in b) h) s) refl
    value_same (both a b) h s = rw (value_same a (left (reads_in a) (reads_in b) h) s, value_same b (right (reads_in a) (reads_in b) h) s) refl
    value_same (either a b) h s = rw (value_same a (left (reads_in a) (reads_in b) h) s, value_same b (right (reads_in a) (reads_in b) h) s) refl
    value_same (negated a) h s = rw (value_same a h s) refl
    value_same (choose c a b) h s =
        let later = right (reads_in c) (λ i. reads_in a i || reads_in b i) h in
        rw (value_same c (left (reads_in c) (λ i. reads_in a i || reads_in b i) h) s, value_same a (left (reads_in a) (reads_in b) later) s, value_same b (right (reads_in a) (reads_in b) later) s) refl
    value_same (cat a b) h s = rw (value_same a (left (reads_in a) (reads_in b) h) s, value_same b (right (reads_in a) (reads_in b) h) s) refl
    value_same (len l) h s = rw (value_same l h s) refl
    value_same (item l i d) h s =
        let later = right (reads_in l) (λ k. reads_in i k || reads_in d k) h in
        rw (value_same l (left (reads_in l) (λ k. reads_in i k || reads_in d k) h) s, value_same i (left (reads_in i) (reads_in d) later) s, value_same d (right (reads_in i) (reads_in d) later) s) refl
    value_same (push a b) h s = rw (value_same a (left (reads_in a) (reads_in b) h) s, value_same b (right (reads_in a) (reads_in b) h) s) refl
    value_same (without a b) h s = rw (value_same a (left (reads_in a) (reads_in b) h) s, value_same b (right (reads_in a) (reads_in b) h) s) refl
    value_same (reversed l) h s = rw (value_same l h s) refl
    value_same (range n) h s = rw (value_same n h s) refl
    value_same (show n) h s = rw (value_same n h s) refl

    pub values_same : (es : Exps) → Agree (reads_in_each es) → (s : Env) → values_of es (seeing was s) ≡ values_of es (seeing now s)
    values_same no_exps h s = refl
    values_same (exp e es) h s = rw (value_same e (left (reads_in e) (reads_in_each es) h) s, values_same es (right (reads_in e) (reads_in_each es) h) s) refl

  mutual
    pub closed_same : (e : Exp) → Agree (reads_in e) → (s : Env) → closed e (seeing was s) ≡ closed e (seeing now s)
    closed_same (literal v) h s = refl
    closed_same (field i) h s = refl
    closed_same (prop i) h s = refl
    closed_same (variable i) h s = refl
    closed_same (inherited i) h s = ap literal (h i (itself i))
    closed_same event_dx h s = refl
    closed_same event_dy h s = refl
    closed_same (ints es) h s = rw (all_closed_same es h s) refl
    closed_same (texts es) h s = rw (all_closed_same es h s) refl
    closed_same (add a b) h s = rw (closed_same a (left (reads_in a) (reads_in b) h) s, closed_same b (right (reads_in a) (reads_in b) h) s) refl
    closed_same (subtract a b) h s = rw (closed_same a (left (reads_in a) (reads_in b) h) s, closed_same b (right (reads_in a) (reads_in b) h) s) refl
    closed_same (multiply a b) h s = rw (closed_same a (left (reads_in a) (reads_in b) h) s, closed_same b (right (reads_in a) (reads_in b) h) s) refl
    closed_same (divide a b) h s = rw (closed_same a (left (reads_in a) (reads_in b) h) s, closed_same b (right (reads_in a) (reads_in b) h) s) refl
    closed_same (rest a b) h s = rw (closed_same a (left (reads_in a) (reads_in b) h) s, closed_same b (right (reads_in a) (reads_in b) h) s) refl
    closed_same (equal a b) h s = rw (closed_same a (left (reads_in a) (reads_in b) h) s, closed_same b (right (reads_in a) (reads_in b) h) s) refl
    closed_same (less a b) h s = rw (closed_same a (left (reads_in a) (reads_in b) h) s, closed_same b (right (reads_in a) (reads_in b) h) s) refl
    closed_same (both a b) h s = rw (closed_same a (left (reads_in a) (reads_in b) h) s, closed_same b (right (reads_in a) (reads_in b) h) s) refl
    closed_same (either a b) h s = rw (closed_same a (left (reads_in a) (reads_in b) h) s, closed_same b (right (reads_in a) (reads_in b) h) s) refl
    closed_same (negated a) h s = rw (closed_same a h s) refl
    closed_same (choose c a b) h s =
        let later = right (reads_in c) (λ i. reads_in a i || reads_in b i) h in
        rw (closed_same c (left (reads_in c) (λ i. reads_in a i || reads_in b i) h) s, closed_same a (left (reads_in a) (reads_in b) later) s, closed_same b (right (reads_in a) (reads_in b) later) s) refl
    closed_same (cat a b) h s = rw (closed_same a (left (reads_in a) (reads_in b) h) s, closed_same b (right (reads_in a) (reads_in b) h) s) refl
    closed_same (len l) h s = rw (closed_same l h s) refl
    closed_same (item l i d) h s =
        let later = right (reads_in l) (λ k. reads_in i k || reads_in d k) h in
        rw (closed_same l (left (reads_in l) (λ k. reads_in i k || reads_in d k) h) s, closed_same i (left (reads_in i) (reads_in d) later) s, closed_same d (right (reads_in i) (reads_in d) later) s) refl
    closed_same (push a b) h s = rw (closed_same a (left (reads_in a) (reads_in b) h) s, closed_same b (right (reads_in a) (reads_in b) h) s) refl
    closed_same (without a b) h s = rw (closed_same a (left (reads_in a) (reads_in b) h) s, closed_same b (right (reads_in a) (reads_in b) h) s) refl
    closed_same (reversed l) h s = rw (closed_same l h s) refl
    closed_same (range n) h s = rw (closed_same n h s) refl
    closed_same (show n) h s = rw (closed_same n h s) refl

    pub all_closed_same : (es : Exps) → Agree (reads_in_each es) → (s : Env) → all_closed es (seeing was s) ≡ all_closed es (seeing now s)
    all_closed_same no_exps h s = refl
    all_closed_same (exp e es) h s = rw (closed_same e (left (reads_in e) (reads_in_each es) h) s, all_closed_same es (right (reads_in e) (reads_in_each es) h) s) refl

  -- ---- from names that are listed

  agree_head : (test : ℕ → Bool) (i a : ℕ) (names : List ℕ) (b : Bool) → i ≡ a → test a ≡ b → test i ≡ true → AgreeAt (cond b (a ∷ names) names) was now → value_at was i ≡ value_at now i
  agree_head test i a names true e t r h = ap (value_at was) e ∙ h.0 ∙ ap (value_at now) (sym e)
  agree_head test i a names false e t r h = let same : test i ≡ test a = ap test e in cc

  agree_tail : (a : ℕ) (names : List ℕ) (b : Bool) → AgreeAt (cond b (a ∷ names) names) was now → AgreeAt names was now
  agree_tail a names true h = h.1
  agree_tail a names false h = h

  agree_listed : (test : ℕ → Bool) (a n i : ℕ) → AgreeAt (filter test (range_with_len a n)) was now → a ≤ i → i < a + n → test i ≡ true → value_at was i ≡ value_at now i
  agree_listed test a zero i h low high r = absurd (omega arith)
  agree_listed test a (suc n) i h low high r =
      either_way (cases_eq i a)
      (λ e. agree_head test i a (filter test (range_with_len (a + 1) n)) (test a) e refl r h)
      (λ d. agree_listed test (a + 1) n i (agree_tail a (filter test (range_with_len (a + 1) n)) (test a) h) (differ_above a i low d) (omega arith) r)

  -- so it is of all names, where both lists have a value of each name and no more
  pub agree : (test : ℕ → Bool) (n : ℕ) → length was ≡ n → length now ≡ n → AgreeAt (filter test (range_with_len 0 n)) was now → Agree test
  agree test n m k h = λ i r.
      either_way (cases_lt i n)
      (λ low. agree_listed test 0 n i h (omega arith) (omega arith) r)
      (λ high. get_or_past was i _ (omega arith) ∙ sym (get_or_past now i _ (omega arith)))
