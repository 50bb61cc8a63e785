-- The rows of a Table: which child stands where.
use Rattle.std.proofs.Common.{◌≡◌, ℕ, zero, suc, ◌+◌, ◌*◌, ◌<◌, ◌≤◌, ◌==◌, arith, true, false, if◌then◌else◌, List, [], ◌∷◌, ◌++◌, length, get_or, append_assoc, ap, sym, refl, ◌∙◌}
use Rattle.std.proofs.lemmas.Bool.Decides.{nat_tests}
use Rattle.std.proofs.lemmas.List.{append-nil, get_or-append-add, get_or_append_left, length_push, length-append}
use Rattle.std.proofs.Math.Nat.{mul-suc}
use Rattle.wrap_table.specs.Runs.{cut_after, is_full, rows_of}

is_all : (row : List ℕ) (n : ℕ) → (length row == n) ≡ true → length row ≡ n
is_all row n h = grind (arith, nat_tests)

is_less : (row : List ℕ) (n : ℕ) → length row ≤ n → (length row == n) ≡ false → length row < n
is_less row n h g = grind (arith, nat_tests)

one_more : (row : List ℕ) (x n : ℕ) → length row < n → length (row ++ x ∷ []) ≤ n
one_more row x n less = let more = length_push row x in omega (arith, more)

same_length : (xs ys : List ℕ) (k : ℕ) → xs ≡ ys → k < length ys → k < length xs
same_length xs ys k e less = let same = ap length e in omega arith

-- what stands behind a full row
behind_row : (n r j : ℕ) (row ys : List ℕ) (d : ℕ) → length row ≡ n → get_or ys (n * r + j) d ≡ get_or (row ++ ys) (n * suc r + j) d
behind_row n r j row ys d all =
    sym (get_or-append-add row ys (n * r + j) d) ∙ ap (λ k. get_or (row ++ ys) k d) (regroup (length row) n (n * r) (n * suc r) j all (mul-suc n r))
  where
    regroup : (l n a b j : ℕ) → l ≡ n → b ≡ a + n → l + (a + j) ≡ b + j
    regroup l n a b j e h = omega arith

behind_there : (n r j : ℕ) (row ys : List ℕ) → length row ≡ n → n * suc r + j < length (row ++ ys) → n * r + j < length ys
behind_there n r j row ys all there = let both = length-append row ys in let step = mul-suc n r in fewer (length row) n (n * r) (n * suc r) j _ _ all step both there
  where
    fewer : (l n a b j k m : ℕ) → l ≡ n → b ≡ a + n → k ≡ l + m → b + j < k → a + j < m
    fewer l n a b j k m e h g less = omega arith

-- the child in a column of a row
pub row_at : (n : ℕ) (left row : List ℕ) (r j d : ℕ) → length row ≤ n → j < n → n * r + j < length (row ++ left)
    → get_or (get_or (cut_after (is_full n) row left) r []) j d ≡ get_or (row ++ left) (n * r + j) d
row_at n [] row zero j d within column there = ap (λ xs. get_or xs j d) (sym (append-nil row)) ∙ ap (λ k. get_or (row ++ []) k d) (first n j)
  where
    first : (n j : ℕ) → j ≡ n * 0 + j
    first n j = omega arith
row_at n [] row (suc r) j d within column there = absurd (too_far (length (row ++ [])) (length row) n r j (ap length (append-nil row)) within (mul-suc n r) there)
  where
    too_far : (k l n r j : ℕ) → k ≡ l → l ≤ n → n * suc r ≡ n * r + n → n * suc r + j < k → ⊥
    too_far k l n r j e h m there = omega arith
row_at n (x ∷ left) row zero j d within column there =
    elim (length row == n)
    as (λ b. (length row == n) ≡ b → get_or (get_or (if b then row ∷ cut_after (is_full n) (x ∷ []) left else cut_after (is_full n) (row ++ x ∷ []) left) 0 []) j d ≡ get_or (row ++ x ∷ left) (n * 0 + j) d) [
      | true ↦ λ e. sym (get_or_append_left row (x ∷ left) d j (let all = is_all row n e in omega arith)) ∙ ap (λ k. get_or (row ++ x ∷ left) k d) (first n j)
      | false ↦ λ e. row_at n left (row ++ x ∷ []) 0 j d (one_more row x n (is_less row n within e)) column (same_length _ _ (n * 0 + j) (append_assoc row (x ∷ []) left) there)
          ∙ ap (λ xs. get_or xs (n * 0 + j) d) (append_assoc row (x ∷ []) left)
    ] refl
  where
    first : (n j : ℕ) → j ≡ n * 0 + j
    first n j = omega arith
row_at n (x ∷ left) row (suc r) j d within column there =
    elim (length row == n)
    as (λ b. (length row == n) ≡ b → get_or (get_or (if b then row ∷ cut_after (is_full n) (x ∷ []) left else cut_after (is_full n) (row ++ x ∷ []) left) (suc r) []) j d ≡ get_or (row ++ x ∷ left) (n * suc r + j) d) [
      | true ↦ λ e. row_at n left (x ∷ []) r j d (omega arith) column (behind_there n r j row (x ∷ left) (is_all row n e) there) ∙ behind_row n r j row (x ∷ left) d (is_all row n e)
      | false ↦ λ e. row_at n left (row ++ x ∷ []) (suc r) j d (one_more row x n (is_less row n within e)) column (same_length _ _ (n * suc r + j) (append_assoc row (x ∷ []) left) there)
          ∙ ap (λ xs. get_or xs (n * suc r + j) d) (append_assoc row (x ∷ []) left)
    ] refl

-- all rows
pub row_of : (n : ℕ) (xs : List ℕ) (r j d : ℕ) → j < n → n * r + j < length xs → get_or (get_or (rows_of n xs) r []) j d ≡ get_or xs (n * r + j) d
row_of n [] r j d column there = absurd (omega arith)
row_of n (x ∷ xs) r j d column there = row_at n xs (x ∷ []) r j d (omega arith) column there
