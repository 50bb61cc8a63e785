-- A quoted text can be read back, and stands on one line.
use Rattle.std.proofs.Common.{◌≡◌, ℕ, ◌+◌, ◌-◌, ◌*◌, ◌/◌, ◌%◌, ◌<◌, ◌≤◌, arith, Bool, true, false, cond, ◌||◌, ◌==◌, nat_lt, if◌then◌else◌, List, [], ◌∷◌, ◌++◌, ap, ap₂, refl, sym, ◌∙◌, append_assoc}
use Rattle.std.specs.List.{list_any}
use Rattle.std.proofs.lemmas.List.Folds.{list_any-append}
use Rattle.std.specs.Fmt.{digit_glyph}
use Rattle.draw_records.specs.Quoted.{unicode_escape, escaped, all_escaped, quoted}

-- ---- one line

abbrev breaks : List ℕ → Bool
breaks bs = list_any (λ b. b == 10) bs

equal_from : (m n : ℕ) → (m == n) ≡ true → m ≡ n
equal_from m n e = grind arith

-- a byte of which a test answers otherwise than of 10
not_ten : (P : ℕ → Bool) (b : ℕ) (v : Bool) → P b ≡ v → (P 10 ≡ v → ⊥) → (b == 10) ≡ false
not_ten P b v h other =
    elim (b == 10) as (λ x. (b == 10) ≡ x → x ≡ false)
    [ true ↦ λ e. absurd (other (ap P (sym (equal_from b 10 e)) ∙ h)) | false ↦ λ e. refl ] refl

glyph_no_break : (d : ℕ) → (digit_glyph false d == 10) ≡ false
glyph_no_break d =
    elim (nat_lt d 10) as (λ b. (cond b (48 + d) (87 + d) == 10) ≡ false)
    [ true ↦ not_ten (λ n. nat_lt n 48) (48 + d) false (below 48 d) (λ h. cc) | false ↦ not_ten (λ n. nat_lt n 87) (87 + d) false (below 87 d) (λ h. cc) ]
  where
    below : (n d : ℕ) → nat_lt (n + d) n ≡ false
    below n d = grind arith

escape_no_break : (b : ℕ) → breaks (unicode_escape b) ≡ false
escape_no_break b = ap₂ (λ x y. x || (y || false)) (glyph_no_break (b / 16)) (glyph_no_break (b % 16))

byte_no_break : (b : ℕ) → breaks (escaped b) ≡ false
byte_no_break b =
    elim (b == 34 || b == 92) as (λ x. (b == 34 || b == 92) ≡ x
    → breaks (cond x (92 ∷ b ∷ []) (cond (nat_lt b 32 || b == 127) (unicode_escape b) (b ∷ []))) ≡ false) [
      | true ↦ λ e. ap (λ y. y || false) (not_ten (λ n. n == 34 || n == 92) b true e (λ h. cc))
      | false ↦ λ e.
          elim (nat_lt b 32 || b == 127) as (λ x. (nat_lt b 32 || b == 127) ≡ x → breaks (cond x (unicode_escape b) (b ∷ [])) ≡ false)
          [ true ↦ λ f. escape_no_break b | false ↦ λ f. ap (λ y. y || false) (not_ten (λ n. nat_lt n 32 || n == 127) b false f (λ h. cc)) ] refl
    ] refl

bytes_no_break : (s : List ℕ) → breaks (all_escaped s) ≡ false
bytes_no_break [] = refl
bytes_no_break (b ∷ s) =
    list_any-append (λ x. x == 10) (escaped b) (all_escaped s) ∙ ap₂ (λ x y. x || y) (byte_no_break b) (bytes_no_break s)

pub quoted_no_break : (s : List ℕ) → breaks (quoted s) ≡ false
quoted_no_break s = list_any-append (λ x. x == 10) (all_escaped s) (34 ∷ []) ∙ ap (λ x. x || false) (bytes_no_break s)

-- ---- reading back

abbrev digit_in : ℕ → ℕ
digit_in g = if nat_lt g 58 then g - 48 else g - 87

-- how far the reading of an escape has come
data Mode : Type 0 where
  plain : Mode
  slash : Mode
  zeros : Mode
  zero_more : Mode
  high : Mode
  low : ℕ → Mode

-- the text up to a quote that isn't escaped
read_back : Mode → List ℕ → List ℕ
read_back plain [] = []
read_back plain (x ∷ xs) = elim (x == 34) [ true ↦ [] | false ↦ elim (x == 92) [ true ↦ read_back slash xs | false ↦ x ∷ read_back plain xs ] ]
read_back slash [] = []
read_back slash (x ∷ xs) = elim (x == 117) [ true ↦ read_back zeros xs | false ↦ x ∷ read_back plain xs ]
read_back zeros [] = []
read_back zeros (x ∷ xs) = read_back zero_more xs
read_back zero_more [] = []
read_back zero_more (x ∷ xs) = read_back high xs
read_back high [] = []
read_back high (x ∷ xs) = read_back (low x) xs
read_back (low h) [] = []
read_back (low h) (x ∷ xs) = (digit_in h * 16 + digit_in x) ∷ read_back plain xs

digit_back : (d : ℕ) → d < 16 → digit_in (digit_glyph false d) ≡ d
digit_back d less =
    elim (nat_lt d 10) as (λ b. nat_lt d 10 ≡ b → digit_in (cond b (48 + d) (87 + d)) ≡ d)
    [ true ↦ λ e. digit_small d (lt_from d 10 e) | false ↦ λ e. digit_large d (ge_from d 10 e) ] refl
  where
    lt_from : (m n : ℕ) → nat_lt m n ≡ true → m < n
    lt_from m n e = grind arith

    ge_from : (m n : ℕ) → nat_lt m n ≡ false → n ≤ m
    ge_from m n e = grind arith

    digit_small : (d : ℕ) → d < 10 → digit_in (48 + d) ≡ d
    digit_small d h = grind arith

    digit_large : (d : ℕ) → 10 ≤ d → digit_in (87 + d) ≡ d
    digit_large d h = grind arith

hex_back : (b : ℕ) → b < 256 → digit_in (digit_glyph false (b / 16)) * 16 + digit_in (digit_glyph false (b % 16)) ≡ b
hex_back b less = ap₂ (λ h l. h * 16 + l) (digit_back (b / 16) (omega arith)) (digit_back (b % 16) (omega arith)) ∙ (omega arith)

small : (b : ℕ) → (nat_lt b 32 || b == 127) ≡ true → b < 256
small b h = grind arith

no_or : (a b : Bool) → (a || b) ≡ false → (a ≡ false) × (b ≡ false)
no_or true b h = cc
no_or false b h = (refl, h)

abbrev by_tests : Bool → Bool → ℕ → List ℕ → List ℕ
by_tests q s b rest = elim q [ true ↦ [] | false ↦ elim s [ true ↦ read_back slash rest | false ↦ b ∷ read_back plain rest ] ]

byte_back : (b : ℕ) (rest : List ℕ) → read_back plain (escaped b ++ rest) ≡ b ∷ read_back plain rest
unfolding read_back
byte_back b rest =
    elim (b == 34 || b == 92) as (λ x. (b == 34 || b == 92) ≡ x
    → read_back plain (cond x (92 ∷ b ∷ []) (cond (nat_lt b 32 || b == 127) (unicode_escape b) (b ∷ [])) ++ rest) ≡ b ∷ read_back plain rest) [
      | true ↦ λ e. ap (λ t. elim t [ true ↦ read_back zeros rest | false ↦ b ∷ read_back plain rest ]) (not_u b e)
      | false ↦ λ e.
          elim (nat_lt b 32 || b == 127) as (λ x. (nat_lt b 32 || b == 127) ≡ x
          → read_back plain (cond x (unicode_escape b) (b ∷ []) ++ rest) ≡ b ∷ read_back plain rest) [
            | true ↦ λ f. ap (λ n. n ∷ read_back plain rest) (hex_back b (small b f))
            | false ↦ λ f. let both = no_or (b == 34) (b == 92) e in ap₂ (λ q s. by_tests q s b rest) both.0 both.1
          ] refl
    ] refl
  where
    not_u : (b : ℕ) → (b == 34 || b == 92) ≡ true → (b == 117) ≡ false
    not_u b e = grind arith

bytes_back : (s : List ℕ) → read_back plain (all_escaped s ++ 34 ∷ []) ≡ s
unfolding read_back
bytes_back [] = refl
bytes_back (b ∷ s) =
    ap (read_back plain) (append_assoc (escaped b) (all_escaped s) (34 ∷ [])) ∙ byte_back b (all_escaped s ++ 34 ∷ []) ∙ ap (λ t. b ∷ t) (bytes_back s)

abbrev after_first : List ℕ → List ℕ
after_first [] = []
after_first (x ∷ xs) = xs

pub quoted_only : (s t : List ℕ) → quoted s ≡ quoted t → s ≡ t
quoted_only s t e = sym (bytes_back s) ∙ ap (λ q. read_back plain (after_first q)) e ∙ bytes_back t
