-- Steps through an order without repeats.
use Rattle.std.proofs.Common.{◌≡◌, ◌≢◌, ℕ, zero, suc, ◌+◌, ◌-◌, ◌<◌, ◌==◌, Bool, true, false, Option, Some, None, List, [], ◌∷◌, ◌⊎◌, inl, inr, length, get_or, refl, sym, ap, ◌∙◌, subst, arith, if◌then◌else◌}
use Rattle.std.specs.Prelude.{Contains, slice_get}
use Rattle.std.specs.Option.{option_or}
use Rattle.std.proofs.lemmas.Bool.{eq-eqb, eqb-true}
use Rattle.std.proofs.lemmas.Grind.{common_steps}
use Rattle.plain_tree.specs.Laws.{DiffersFrom, AllDiffer}
use Rattle.screen_form.specs.FocusSteps.{first_of, last_of, after, before, next_of, prev_of}

is_no : (b : Bool) → (b ≡ true → ⊥) → b ≡ false
is_no true h = absurd (h refl)
is_no false h = refl

other_test : (n x : ℕ) → n ≢ x → (n == x) ≡ false
other_test n x apart = is_no (n == x) (λ e. apart (eqb-true n x e))

-- a number is in a list
abbrev IsIn : ℕ → List ℕ → Type 0
IsIn x [] = ⊥
IsIn x (n ∷ ns) = (n ≡ x) ⊎ IsIn x ns

is_in : (ns : List ℕ) (x k : ℕ) → k < length ns → get_or ns k x ≡ x → IsIn x ns
is_in [] x k within is = let none : length {A = ℕ} [] ≡ 0 = refl in absurd (omega arith)
is_in (n ∷ ns) x zero within is = inl is
is_in (n ∷ ns) x (suc k) within is =
    let more : length (n ∷ ns) ≡ length ns + 1 = grind (arith, common_steps) in inr (is_in ns x k (omega arith) is)

-- the last of a list that begins with a number
abbrev last_from : ℕ → List ℕ → ℕ
last_from n [] = n
last_from n (m ∷ ms) = last_from m ms

last_of-from : (n : ℕ) (ns : List ℕ) → last_of (n ∷ ns) ≡ Some (last_from n ns)
last_of-from n [] = refl
last_of-from n (m ∷ ms) =
    let more : length (n ∷ m ∷ ms) ≡ length (m ∷ ms) + 1 = grind (arith, common_steps) in
    let some : length (m ∷ ms) ≡ length ms + 1 = grind (arith, common_steps) in
    let next : length (n ∷ m ∷ ms) - 1 ≡ suc (length (m ∷ ms) - 1) = omega (arith, more, some) in
    ap (slice_get (n ∷ m ∷ ms)) next ∙ last_of-from m ms

-- what comes after a number, or before it, is in the list, so that it differs from what the list's numbers differ from
after_apart_by : (own : Bool) (n : ℕ) (ms : List ℕ) (x y : ℕ) → DiffersFrom n ms → (if own then first_of ms else after ms x) ≡ Some y
    → (after ms x ≡ Some y → n ≢ y) → n ≢ y
after_apart_by true n [] x y d e h = cc
after_apart_by true n (k ∷ ks) x y d e h = let same : k ≡ y = cc in subst (λ z. n ≢ z) same d.0
after_apart_by false n ms x y d e h = h e

after_apart : (n : ℕ) (ms : List ℕ) (x y : ℕ) → DiffersFrom n ms → after ms x ≡ Some y → n ≢ y
after_apart n [] x y d e = cc
after_apart n (m ∷ ms) x y d e = after_apart_by (m == x) n ms x y d.1 e (after_apart n ms x y d.1)

before_apart_by : (own : Bool) (p n m : ℕ) (ms : List ℕ) (x y : ℕ) → p ≢ n → (if own then Some n else before (Some m) ms x) ≡ Some y
    → (before (Some m) ms x ≡ Some y → p ≢ y) → p ≢ y
before_apart_by true p n m ms x y d e h = let same : n ≡ y = cc in subst (λ z. p ≢ z) same d
before_apart_by false p n m ms x y d e h = h e

before_apart : (p n : ℕ) (ms : List ℕ) (x y : ℕ) → DiffersFrom p (n ∷ ms) → before (Some n) ms x ≡ Some y → p ≢ y
before_apart p n [] x y d e = cc
before_apart p n (m ∷ ms) x y d e = before_apart_by (m == x) p n m ms x y d.0 e (before_apart p m ms x y d.1)

-- the number before the next one
next_then_by : (own : Bool) (b : Option ℕ) (n : ℕ) (ns : List ℕ) (x y : ℕ) → (n == x) ≡ own → AllDiffer (n ∷ ns) → (if own then first_of ns else after ns x) ≡ Some y
    → ((c : Option ℕ) → after ns x ≡ Some y → before c ns y ≡ Some x) → before b (n ∷ ns) y ≡ Some x
next_then_by true b n [] x y is d e h = cc
next_then_by true b n (m ∷ ms) x y is d e h =
    let same : m ≡ y = cc in
    let apart : (n == y) ≡ false = other_test n y (subst (λ z. n ≢ z) same d.0.0) in
    ap (λ t. if t then b else (if m == y then Some n else before (Some m) ms y)) apart
    ∙ ap (λ t. if t then Some n else before (Some m) ms y) (eq-eqb m y same)
    ∙ ap Some (eqb-true n x is)
next_then_by false b n ns x y is d e h =
    ap (λ t. if t then b else before (Some n) ns y) (other_test n y (after_apart n ns x y d.0 e)) ∙ h (Some n) e

next_then : (b : Option ℕ) (ns : List ℕ) (x y : ℕ) → AllDiffer ns → after ns x ≡ Some y → before b ns y ≡ Some x
next_then b [] x y d e = cc
next_then b (n ∷ ns) x y d e = next_then_by (n == x) b n ns x y refl d e (λ c. next_then c ns x y d.1)

-- the number after the one before
prev_then_by : (own : Bool) (p n : ℕ) (ns : List ℕ) (x y : ℕ) → (n == x) ≡ own → AllDiffer (p ∷ n ∷ ns)
    → (if own then Some p else before (Some n) ns x) ≡ Some y → (before (Some n) ns x ≡ Some y → after (n ∷ ns) y ≡ Some x) → after (p ∷ n ∷ ns) y ≡ Some x
prev_then_by true p n ns x y is d e h =
    let same : p ≡ y = cc in
    ap (λ t. if t then Some n else after (n ∷ ns) y) (eq-eqb p y same) ∙ ap Some (eqb-true n x is)
prev_then_by false p n ns x y is d e h =
    ap (λ t. if t then Some n else after (n ∷ ns) y) (other_test p y (before_apart p n ns x y d.0 e)) ∙ h e

prev_then : (p : ℕ) (ns : List ℕ) (x y : ℕ) → AllDiffer (p ∷ ns) → before (Some p) ns x ≡ Some y → after (p ∷ ns) y ≡ Some x
prev_then p [] x y d e = cc
prev_then p (n ∷ ns) x y d e = prev_then_by (n == x) p n ns x y refl d e (prev_then n ns x y d.1)

-- a number after which nothing comes is the last
ends_by : (own : Bool) (n m : ℕ) (ms : List ℕ) (x : ℕ) → (n == x) ≡ own → (if own then Some m else after (m ∷ ms) x) ≡ None → IsIn x (n ∷ m ∷ ms)
    → (after (m ∷ ms) x ≡ None → IsIn x (m ∷ ms) → last_from m ms ≡ x) → last_from m ms ≡ x
ends_by true n m ms x is e here h = cc
ends_by false n m ms x is e (inl same) h = let both : true ≡ false = sym (eq-eqb n x same) ∙ is in cc
ends_by false n m ms x is e (inr later) h = h e later

ends : (n : ℕ) (ns : List ℕ) (x : ℕ) → after (n ∷ ns) x ≡ None → IsIn x (n ∷ ns) → last_from n ns ≡ x
ends n [] x e (inl same) = same
ends n [] x e (inr later) = absurd later
ends n (m ∷ ms) x e here = ends_by (n == x) n m ms x refl e here (ends m ms x)

-- and nothing comes after the last
last_apart : (p n : ℕ) (ns : List ℕ) → DiffersFrom p (n ∷ ns) → p ≢ last_from n ns
last_apart p n [] d = d.0
last_apart p n (m ∷ ms) d = last_apart p m ms d.1

abbrev nothing : Option ℕ
nothing = None

either_none : (own : Bool) → (if own then nothing else nothing) ≡ nothing
either_none true = refl
either_none false = refl

after_last : (n : ℕ) (ns : List ℕ) → AllDiffer (n ∷ ns) → after (n ∷ ns) (last_from n ns) ≡ None
after_last n [] d = either_none (n == n)
after_last n (m ∷ ms) d =
    ap (λ t. if t then Some m else after (m ∷ ms) (last_from m ms)) (other_test n (last_from m ms) (last_apart n m ms d.0)) ∙ after_last m ms d.1

-- a number before which nothing comes is the first
something : (own : Bool) (p n : ℕ) (ns : List ℕ) (x : ℕ) → (n == x) ≡ own → (if own then Some p else before (Some n) ns x) ≡ None → IsIn x (n ∷ ns)
    → (before (Some n) ns x ≡ None → IsIn x ns → ⊥) → ⊥
something true p n ns x is e here h = cc
something false p n ns x is e (inl same) h = let both : true ≡ false = sym (eq-eqb n x same) ∙ is in cc
something false p n ns x is e (inr later) h = h e later

has_before : (p : ℕ) (ns : List ℕ) (x : ℕ) → before (Some p) ns x ≡ None → IsIn x ns → ⊥
has_before p [] x e here = here
has_before p (n ∷ ns) x e here = something (n == x) p n ns x refl e here (has_before n ns x)

begins_by : (own : Bool) (n : ℕ) (ns : List ℕ) (x : ℕ) → (n == x) ≡ own → (if own then None else before (Some n) ns x) ≡ None → IsIn x (n ∷ ns) → n ≡ x
begins_by true n ns x is e here = eqb-true n x is
begins_by false n ns x is e (inl same) = same
begins_by false n ns x is e (inr later) = absurd (has_before n ns x e later)

-- one step and back
back_by : (o : Option ℕ) (n : ℕ) (ns : List ℕ) (x : ℕ) → AllDiffer (n ∷ ns) → IsIn x (n ∷ ns) → after (n ∷ ns) x ≡ o
    → prev_of (n ∷ ns) (option_or o (Some n)) ≡ Some x
back_by (Some y) n ns x d here is = ap (λ o. option_or o (last_of (n ∷ ns))) (next_then None (n ∷ ns) x y d is)
back_by None n ns x d here is =
    ap (λ t. option_or (if t then None else before (Some n) ns n) (last_of (n ∷ ns))) (eq-eqb n n refl)
    ∙ last_of-from n ns
    ∙ ap Some (ends n ns x is here)

pub back_law : (order : List ℕ) (x : ℕ) → AllDiffer order → Contains order x → prev_of order (next_of order (Some x)) ≡ Some x
back_law [] x d has = absurd (is_in [] x has.0 has.1 has.2)
back_law (n ∷ ns) x d has = back_by (after (n ∷ ns) x) n ns x d (is_in (n ∷ ns) x has.0 has.1 has.2) refl

forth_by : (o : Option ℕ) (n : ℕ) (ns : List ℕ) (x : ℕ) → AllDiffer (n ∷ ns) → IsIn x (n ∷ ns) → before None (n ∷ ns) x ≡ o
    → next_of (n ∷ ns) (option_or o (last_of (n ∷ ns))) ≡ Some x
forth_by (Some y) n ns x d here is = ap (λ o. option_or o (Some n)) (came (n == x) is)
  where
    came : (own : Bool) → (if own then None else before (Some n) ns x) ≡ Some y → after (n ∷ ns) y ≡ Some x
    came true e = cc
    came false e = prev_then n ns x y d e
forth_by None n ns x d here is =
    ap (λ o. next_of (n ∷ ns) o) (last_of-from n ns)
    ∙ ap (λ o. option_or o (Some n)) (after_last n ns d)
    ∙ ap Some (begins_by (n == x) n ns x refl is here)

pub forth_law : (order : List ℕ) (x : ℕ) → AllDiffer order → Contains order x → next_of order (prev_of order (Some x)) ≡ Some x
forth_law [] x d has = absurd (is_in [] x has.0 has.1 has.2)
forth_law (n ∷ ns) x d has = forth_by (before None (n ∷ ns) x) n ns x d (is_in (n ∷ ns) x has.0 has.1 has.2) refl
