-- Places that are added one after another.
use Rattle.std.proofs.Common.{◌≡◌, ℕ, ◌+◌, ◌<◌, ◌≤◌, length, get_or, drop, List, [], ◌∷◌, Bool, true, false, ◌||◌, Result, Ok, Err, OnOk, ap, refl, sym, ◌∙◌}
use Rattle.std.proofs.lemmas.List.{at_drop_more, at_drop_all}
use Rattle.fx_expr.specs.declared.opened.One.{One}
use Rattle.fx_expr.specs.Exp.{Exp}
use Rattle.fx_expr.specs.SomeForm.{reads_inherited}
use Rattle.fx_expr.specs.Places.{is_among, AddsPlaces, LeftToAdd}
use Rattle.fx_expr.specs.PlaceLaws.{or_assoc}
use Rattle.fx_expr.specs.Forms.{one_of}
use Rattle.fx_expr.proofs.OpenedLaws.{reads_one}

or_false : (a : Bool) → (a || false) ≡ a
or_false true = refl
or_false false = refl

-- nothing is added
pub adds_none : (a : List ℕ) → AddsPlaces a a (λ i. false)
adds_none a i = sym (or_false (is_among i a))

-- ---- the items of a list one by one: what is added so far, and what the rest will add

pub left_more : {X : Type 0} (some : ℕ → List X → Bool) (one : ℕ → X → Bool) → ((i : ℕ) (x : X) (xs : List X) → some i (x ∷ xs) ≡ (one i x || some i xs))
    → (old now later : List ℕ) (all : List X) (n : ℕ) (x : X) → n < length all → x ≡ get_or all n x
    → LeftToAdd some old now all (drop n all) → AddsPlaces now later (λ i. one i x) → LeftToAdd some old later all (drop (n + 1) all)
left_more some one step old now later all n x h e left added i =
    ap (λ b. b || some i (drop (n + 1) all)) (added i) ∙ or_assoc (is_among i now) (one i x) (some i (drop (n + 1) all))
    ∙ ap (λ b. is_among i now || b) (sym (at_drop_more (some i) all n x h ∙ step i (get_or all n x) (drop (n + 1) all) ∙ ap (λ y. one i y || some i (drop (n + 1) all)) (sym e)))
    ∙ left i

pub left_done : {X : Type 0} (some : ℕ → List X → Bool) → ((i : ℕ) → some i [] ≡ false) → (old now : List ℕ) (all : List X) (n : ℕ) → length all ≤ n
    → LeftToAdd some old now all (drop n all) → AddsPlaces old now (λ i. some i all)
left_done some none old now all n h left i =
    sym (ap (λ b. is_among i now || b) (at_drop_all (some i) all n h ∙ none i) ∙ or_false (is_among i now)) ∙ left i

-- ---- what a form over one operand adds is what its operand does

pub one_done : {A E : Type 0} (r : Result A E) (e : Exp) (f : One) (x : Exp) (old new : List ℕ) → one_of f x ≡ e
    → OnOk r (AddsPlaces old new (λ i. reads_inherited i x)) → OnOk r (AddsPlaces old new (λ i. reads_inherited i e))
one_done (Ok u) e f x old new is one = λ i. one i ∙ ap (λ v. is_among i old || v) (sym (reads_one i f x) ∙ ap (reads_inherited i) is)
one_done (Err u) e f x old new is one = tt
