-- The lines of a text, found in one pass: what is held of the present line is the stretch up to its last space, and the
-- word after that.
use Rattle.std.proofs.Common.{◌≡◌, ℕ, zero, suc, ◌+◌, ◌-◌, ◌<◌, ◌≤◌, ◌⊎◌, inl, inr, arith, Bool, true, false, not, ◌&&◌, List, [], ◌∷◌, ◌++◌, take, drop, length, Option, Some, None, ap, refl, sym, ◌∙◌, nat_le, append_assoc}
use Rattle.std.proofs.Math.Seq.{take-append_seam, drop-append_seam, take-append-add}
use Rattle.std.proofs.lemmas.List.{take-append-le, take_all, length-append}
use Rattle.std.proofs.lemmas.Grind.{common_steps}
use Rattle.text_cells.specs.Cluster.{Cluster, width}
use Rattle.text_cells.specs.Line.{fits, last_is_space, IsBreak, IsLine, AreLines}
use Rattle.text_cells.specs.Pass.{NoSpace, IsHeld}
use Rattle.text_cells.specs.Wrapped.{is_some, is_full, cut_count, word_left}
use Rattle.text_cells.proofs.Widths.{width-take_le}

-- ---- small facts

fits_less : (limit : Option ℕ) (a b : ℕ) → a ≤ b → fits limit a ≡ false → fits limit b ≡ false
fits_less None a b le f = f
fits_less (Some n) a b le f = nat_le_false a b n le f
  where
    nat_le_false : (a b n : ℕ) → a ≤ b → nat_le a n ≡ false → nat_le b n ≡ false
    nat_le_false a b n le f = grind arith

pub fits_more : (limit : Option ℕ) (a b : ℕ) → a ≤ b → fits limit b ≡ true → fits limit a ≡ true
fits_more None a b le f = f
fits_more (Some n) a b le f = nat_le_true a b n le f
  where
    nat_le_true : (a b n : ℕ) → a ≤ b → nat_le b n ≡ true → nat_le a n ≡ true
    nat_le_true a b n le f = grind arith

and_first : (a b : Bool) → (a && b) ≡ true → a ≡ true
and_first true b h = refl
and_first false b h = h

and_second : (a b : Bool) → (a && b) ≡ true → b ≡ true
and_second true b h = h
and_second false b h = cc

not_true : (b : Bool) → not b ≡ true → b ≡ false
not_true true h = cc
not_true false h = refl

pub last-append : (xs : List Cluster) (z : Cluster) (zs : List Cluster) → last_is_space (xs ++ z ∷ zs) ≡ last_is_space (z ∷ zs)
last-append [] z zs = refl
last-append (x ∷ []) z zs = refl
last-append (x ∷ y ∷ xs) z zs = last-append (y ∷ xs) z zs

-- a front that reaches into a word without spaces
last-word : (xs ys : List Cluster) (n : ℕ) → NoSpace ys → 1 ≤ n → n ≤ length ys → last_is_space (xs ++ take n ys) ≡ false
last-word xs [] n h some le = absurd (let none : length {A = Cluster} [] ≡ 0 = refl in omega arith)
last-word xs (y ∷ ys) zero h some le = absurd (omega arith)
last-word xs (y ∷ ys) (suc n) h some le = last-append xs y (take n ys) ∙ h (suc n)

pub word_none : NoSpace []
word_none zero = refl
word_none (suc n) = refl

-- ---- a full line is cut where the definition cuts it

pub break_held : (xs ys more : List Cluster) → (xs ≡ []) ⊎ (last_is_space xs ≡ true) → NoSpace ys → is_some (xs ++ ys) ≡ true
    → IsBreak ((xs ++ ys) ++ more) (length (xs ++ ys)) (cut_count xs ys)
break_held [] ys more space word some = inr (
  record {
    none = λ n one le. ap last_is_space (take-append-le n ys more le) ∙ word n;
  },
  refl,
)
break_held (x ∷ xs) ys more (inl e) word some = absurd (cc)
break_held (x ∷ xs) ys more (inr space) word some = inl (record {
  some = grind (arith, common_steps);
  within = let sum = length-append (x ∷ xs) ys in omega arith;
  space = ap last_is_space (ap (take (length (x ∷ xs))) (append_assoc (x ∷ xs) ys more) ∙ take-append_seam (x ∷ xs) (ys ++ more)) ∙ space;
  last = λ n less le.
      let sum = length-append (x ∷ xs) ys in
      let place : length (x ∷ xs) + (n - length (x ∷ xs)) ≡ n = omega arith in
      ap (λ k. last_is_space (take k (((x ∷ xs) ++ ys) ++ more))) (sym place)
      ∙ ap last_is_space (take-append-le _ ((x ∷ xs) ++ ys) more (omega arith) ∙ take-append-add (x ∷ xs) ys (n - length (x ∷ xs)))
      ∙ last-word (x ∷ xs) ys (n - length (x ∷ xs)) word (omega arith) (omega arith);
})

-- the present line, before the next cluster
abbrev pub left_of : List Cluster → List Cluster → Cluster → List Cluster → List Cluster
left_of xs ys c more = (xs ++ ys) ++ c ∷ more

one_more : (hs : List Cluster) (c : Cluster) (more : List Cluster) → take (length hs + 1) (hs ++ c ∷ more) ≡ hs ++ c ∷ []
one_more hs c more = take-append-add hs (c ∷ more) 1

wider : (limit : Option ℕ) (hs : List Cluster) (c : Cluster) (more : List Cluster) (n : ℕ) → fits limit (width (hs ++ c ∷ [])) ≡ false
    → length hs < n → fits limit (width (take n (hs ++ c ∷ more))) ≡ false
wider limit hs c more n full less =
    let longer : width (take (length hs + 1) (hs ++ c ∷ more)) ≤ width (take n (hs ++ c ∷ more)) = width-take_le (hs ++ c ∷ more) (length hs + 1) n (omega arith) in
    let front : width (take (length hs + 1) (hs ++ c ∷ more)) ≡ width (hs ++ c ∷ []) = ap width (one_more hs c more) in
    fits_less limit _ _ (omega (arith, longer, front)) full

some_len : (hs : List Cluster) → is_some hs ≡ true → 1 ≤ length hs
some_len [] h = cc
some_len (x ∷ xs) h = grind (arith, common_steps)

fit_or_one : (limit : Option ℕ) (hs : List Cluster) (c : Cluster) (more : List Cluster) → 1 ≤ length hs
    → (fits limit (width hs) ≡ true) ⊎ (length hs ≤ 1) → (fits limit (width (take (length hs) (hs ++ c ∷ more))) ≡ true) ⊎ (length hs ≡ 1)
fit_or_one limit hs c more some (inl fit) = inl (ap (λ t. fits limit (width t)) (take-append_seam hs (c ∷ more)) ∙ fit)
fit_or_one limit hs c more some (inr one) = inr (omega arith)

pub line_full : (limit : Option ℕ) (xs ys : List Cluster) (c : Cluster) (more : List Cluster) → IsHeld limit xs ys → is_full limit xs ys c ≡ true
    → IsLine limit (left_of xs ys c more) (cut_count xs ys)
line_full limit xs ys c more held full =
    let hs = xs ++ ys in
    let some : is_some hs ≡ true = and_first (is_some hs) _ full in
    let over : fits limit (width (hs ++ c ∷ [])) ≡ false = not_true _ (and_second (is_some hs) _ full) in
    let whole : fits limit (width (hs ++ c ∷ more)) ≡ false =
    ap (λ t. fits limit (width t)) (sym (take_all (length (hs ++ c ∷ more)) (hs ++ c ∷ more) (omega arith)))
    ∙ wider limit hs c more (length (hs ++ c ∷ more)) over (let sum = length-append hs (c ∷ more) in let one : length (c ∷ more) ≡ length more + 1 = grind (arith, common_steps) in omega arith) in
    inr (
      whole,
      (
        length hs,
        record {
          some = some_len hs some;
          there = let sum = length-append hs (c ∷ more) in omega arith;
          fit = fit_or_one limit hs c more (some_len hs some) held.fit;
          most = λ n less there. wider limit hs c more n over less;
        },
        break_held xs ys (c ∷ more) held.space held.word some,
      ),
    )

pub cut_less : (xs ys : List Cluster) (c : Cluster) (more : List Cluster) → cut_count xs ys < length (left_of xs ys c more)
cut_less [] ys c more = let sum = length-append ys (c ∷ more) in let one : length (c ∷ more) ≡ length more + 1 = grind (arith, common_steps) in omega arith
cut_less (x ∷ xs) ys c more =
    let all = length-append ((x ∷ xs) ++ ys) (c ∷ more) in
    let sum = length-append (x ∷ xs) ys in
    let one : length (c ∷ more) ≡ length more + 1 = grind (arith, common_steps) in omega arith

pub drop_cut : (xs ys : List Cluster) (c : Cluster) (more : List Cluster) → drop (cut_count xs ys) (left_of xs ys c more) ≡ left_of [] (word_left xs ys) c more
drop_cut [] ys c more = drop-append_seam ys (c ∷ more)
drop_cut (x ∷ xs) ys c more = ap (drop (length (x ∷ xs))) (append_assoc (x ∷ xs) ys (c ∷ more)) ∙ drop-append_seam (x ∷ xs) (ys ++ c ∷ more)

pub take_cut : (xs ys more : List Cluster) → take (cut_count xs ys) ((xs ++ ys) ++ more) ≡ take (cut_count xs ys) (xs ++ ys)
take_cut [] ys more = take-append_seam ys more ∙ sym (take_all (length ys) ys (omega arith))
take_cut (x ∷ xs) ys more = take-append-le (length (x ∷ xs)) ((x ∷ xs) ++ ys) more (let sum = length-append (x ∷ xs) ys in omega arith)

-- one more line in front
pub lines_more : (limit : Option ℕ) (left : List Cluster) (n : ℕ) (ns : List ℕ) → IsLine limit left n → n < length left → AreLines limit (drop n left) ns
    → AreLines limit left (n ∷ ns)
lines_more limit left n [] line less more = absurd more
lines_more limit left n (m ∷ ms) line less more = (line, less, more)
