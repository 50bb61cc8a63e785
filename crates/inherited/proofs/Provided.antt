-- Lists of values from the innermost out.
use Rattle.std.proofs.Common.{◌≡◌, ℕ, ◌+◌, ◌<◌, Bool, true, false, cond, eqb, is_some, List, [], ◌∷◌, ◌++◌, length, reverse, take, get_or, Option, Some, None, refl, sym, ap, ◌∙◌}
use Rattle.std.specs.List.{find}
use Rattle.std.specs.Option.{option_to_list}
use Rattle.std.proofs.lemmas.List.{reverse-append, take_more, append-nil}
use Rattle.fx_expr.specs.declared.values.Value.{Value}

-- what is pushed is the innermost
pub pushed : {X : Type 0} (old new : List X) (x : X) → new ≡ old ++ x ∷ [] → reverse new ≡ x ∷ reverse old
pushed old new x e = ap reverse e ∙ reverse-append old (x ∷ [])

-- what is popped was it
pub popped_some : {X : Type 0} (old new : List X) (r : Option X) (p : X) (ps : List X) → old ≡ new ++ option_to_list r → (is_some r ≡ false → old ≡ []) → reverse old ≡ p ∷ ps
    → (is_some r ≡ true) × (reverse new ≡ ps)
popped_some old new None p ps items none was = absurd (let empty : reverse old ≡ [] = ap reverse (none refl) in let both = sym empty ∙ was in cc)
popped_some old new (Some x) p ps items none was =
    let front : x ∷ reverse new ≡ p ∷ ps = sym (pushed new old x items) ∙ was in
    (refl, (cc))

pub popped_none : {X : Type 0} (old new : List X) (r : Option X) → old ≡ new ++ option_to_list r → reverse old ≡ [] → (is_some r ≡ false) × (reverse new ≡ [])
popped_none old new None items was = (refl, ap reverse (sym (append-nil new) ∙ sym items) ∙ was)
popped_none old new (Some x) items was = absurd (let front : x ∷ reverse new ≡ [] = sym (pushed new old x items) ∙ was in cc)

-- the values from a place out, and the innermost of them
abbrev pub is_of : ℕ → ℕ × Value → Bool
is_of name p = eqb p.0 name

pub looked_past : (xs : List (ℕ × Value)) (name i : ℕ) (d : ℕ × Value) → i < length xs → is_of name (get_or xs i d) ≡ false
    → find (is_of name) (reverse (take (i + 1) xs)) ≡ find (is_of name) (reverse (take i xs))
looked_past xs name i d within other =
    ap (find (is_of name)) (pushed (take i xs) (take (i + 1) xs) (get_or xs i d) (take_more xs i d within))
    ∙ ap (λ b. cond b (Some (get_or xs i d)) (find (is_of name) (reverse (take i xs)))) other

pub looked_at : (xs : List (ℕ × Value)) (name i : ℕ) (d : ℕ × Value) → i < length xs → is_of name (get_or xs i d) ≡ true
    → find (is_of name) (reverse (take (i + 1) xs)) ≡ Some (get_or xs i d)
looked_at xs name i d within here =
    ap (find (is_of name)) (pushed (take i xs) (take (i + 1) xs) (get_or xs i d) (take_more xs i d within))
    ∙ ap (λ b. cond b (Some (get_or xs i d)) (find (is_of name) (reverse (take i xs)))) here
