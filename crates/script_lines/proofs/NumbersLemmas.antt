-- The numbers of a line.
use Rattle.std.proofs.Common.{◌≡◌, ◌≢◌, ℕ, ◌^◌, ◌<◌, ◌≤◌, Bool, true, false, ◌==◌, ◌&&◌, not, List, [], ◌∷◌, length, drop, Option, Some, None, option_map, Result, Ok, Err, refl, ap, sym, subst, nat_le, ◌∙◌, arith, if◌then◌else◌}
use Rattle.std.proofs.lemmas.Bool.Decides.{nat_tests}
use Rattle.std.proofs.lemmas.Int.Digits.{digits_value-lt}
use Rattle.std.proofs.Math.Nat.{pow-le-pow_right}
use Rattle.std.specs.Prelude.{MatchOption}
use Rattle.std.specs.Borrow.{Bor}
use Rattle.std.specs.List.{list_all}
use Rattle.std.specs.Char.{is_ascii_digit, digit_value}
use Rattle.std.specs.Result.{result_ok, OkIff}
use Rattle.std.specs.Str.Parse.{AllDigits, IsNumeral, ParsesUnsigned, digits_value, without_leading_plus}
use Rattle.script_lines.specs.Numbers.{is_numeral, magnitude_of}
use Rattle.script_lines.specs.NumberView.{strip_byte}

strip_byte-at : (c : ℕ) (rest : List ℕ) → strip_byte c (c ∷ rest) ≡ Some rest
strip_byte-at c rest = let e : (c == c) ≡ true = grind (arith, nat_tests) in ap (λ v. if v then Some rest else None) e

-- the clause of `strip_prefix` at a byte
pub strip_byte-from : (c : ℕ) (bs : List ℕ) (r : Option (Bor (List ℕ)))
    → MatchOption r ((rest : List ℕ) → bs ≢ c ∷ rest) (λ x. bs ≡ c ∷ x.now) → option_map (λ s. s.now) r ≡ strip_byte c bs
strip_byte-from c [] None h = refl
strip_byte-from c [] (Some x) h = cc
strip_byte-from c (b ∷ bs) None h = go (b == c) refl
  where
    go : (t : Bool) → (b == c) ≡ t → None ≡ strip_byte c (b ∷ bs)
    go true e = absurd (h bs (ap (λ n. n ∷ bs) (grind (arith, nat_tests))))
    go false e = rw e
strip_byte-from c (b ∷ bs) (Some x) h = sym (ap (strip_byte c) h ∙ strip_byte-at c x.now)

-- digits are a numeral, which no plus begins
digit_small : (c : ℕ) → is_ascii_digit c ≡ true → digit_value c < 10
digit_small c h = grind (arith, nat_tests)

no_plus : (c : ℕ) → is_ascii_digit c ≡ true → (c == 43) ≡ false
no_plus c h = grind (arith, nat_tests)

both : (a b : Bool) → (a && b) ≡ true → (a ≡ true) × (b ≡ true)
both true b h = (refl, h)
both false b h = cc

all_digits : (bs : List ℕ) → list_all is_ascii_digit bs ≡ true → AllDigits 10 bs
all_digits [] h = tt
all_digits (c ∷ cs) h = let p = both (is_ascii_digit c) (list_all is_ascii_digit cs) h in (digit_small c p.0, all_digits cs p.1)

unsigned : (bs : List ℕ) → list_all is_ascii_digit bs ≡ true → without_leading_plus bs ≡ bs
unsigned [] h = refl
unsigned (c ∷ cs) h = ap (λ v. drop (if v then 1 else 0) (c ∷ cs)) (no_plus c (both (is_ascii_digit c) (list_all is_ascii_digit cs) h).0)

small : (bs : List ℕ) → length bs ≤ 19 → AllDigits 10 bs → digits_value 10 bs < 2 ^ 64
small bs h all =
    let below = digits_value-lt 10 bs all in
    let capped = pow-le-pow_right {n = 10} (omega arith) {i = length bs} {j = 19} h in
    omega (arith, below, capped)

-- a numeral, parsed
pub numeral_parses : {E : Type 0} (bs : List ℕ) (r : Result ℕ E) → ParsesUnsigned 64 10 bs r → is_numeral bs ≡ true → result_ok r ≡ magnitude_of bs
numeral_parses {E} bs r parses h =
    let parts = both (not (length bs == 0) && nat_le (length bs) 19) (list_all is_ascii_digit bs) h in
    let sizes = both (not (length bs == 0)) (nat_le (length bs) 19) parts.0 in
    let all = all_digits bs parts.1 in
    let some : 0 < length bs = grind (arith, nat_tests, sizes.0) in
    let fits : length bs ≤ 19 = grind (arith, nat_tests, sizes.1) in
    let plain = unsigned bs parts.1 in
    go r (let P : List ℕ → Type 0 = λ ds. OkIff r (IsNumeral 10 ds × (digits_value 10 ds < 2 ^ 64)) (digits_value 10 ds) in subst P plain parses)
    (some, all) (small bs fits all)
  where
    go : (r : Result ℕ E) → OkIff r (IsNumeral 10 bs × (digits_value 10 bs < 2 ^ 64)) (digits_value 10 bs) → IsNumeral 10 bs → digits_value 10 bs < 2 ^ 64
        → result_ok r ≡ magnitude_of bs
    go (Ok x) is numeral low = ap Some is.1 ∙ sym (ap (λ v. if v then Some (digits_value 10 bs) else None) h)
    go (Err e) is numeral low = absurd (is (numeral, low))
