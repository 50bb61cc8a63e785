-- How the width of a stretch of clusters grows.
use Rattle.std.proofs.Common.{◌≡◌, ℕ, ◌+◌, ◌≤◌, arith, Bool, true, false, cond, ◌&&◌, List, [], ◌∷◌, ◌++◌, take, drop, ap, ap₂, refl, sym, ◌∙◌}
use Rattle.std.specs.List.{list_all}
use Rattle.std.proofs.lemmas.List.{take-append-drop, take-take}
use Rattle.std.proofs.lemmas.List.Folds.{list_all-append}
use Rattle.text_cells.specs.Cluster.{Cluster, cells_sum, bytes_sum, width}

abbrev pub all_space : List Cluster → Bool
all_space cs = list_all (λ d. d.is_space) cs

cond_le : (b c : Bool) (x y : ℕ) → (c ≡ true → b ≡ true) → x ≤ y → cond b 0 x ≤ cond c 0 y
cond_le true c x y h le = omega arith
cond_le false true x y h le = let no : false ≡ true = h refl in cc
cond_le false false x y h le = le

and_left : (a b : Bool) → (a && b) ≡ true → a ≡ true
and_left true b h = refl
and_left false b h = h

pub all_space-front : (ds xs : List Cluster) → all_space (ds ++ xs) ≡ true → all_space ds ≡ true
all_space-front ds xs h = and_left _ (all_space xs) (sym (list_all-append (λ d. d.is_space) ds xs) ∙ h)

-- a longer stretch is at least as wide
pub width-more : (ds xs : List Cluster) → width ds ≤ width (ds ++ xs)
width-more [] xs = omega arith
width-more (d ∷ ds) xs =
    cond_le (all_space (d ∷ ds)) (all_space (d ∷ ds ++ xs)) (d.cells + width ds) (d.cells + width (ds ++ xs))
    (all_space-front (d ∷ ds) xs) (let ih = width-more ds xs in omega arith)

-- the first n clusters of a longer front
pub width-take_le : (cs : List Cluster) (n m : ℕ) → n ≤ m → width (take n cs) ≤ width (take m cs)
width-take_le cs n m le =
    let front : take n (take m cs) ≡ take n cs = take-take n m cs le in
    let whole : take n (take m cs) ++ drop n (take m cs) ≡ take m cs = take-append-drop n (take m cs) in
    let more = width-more (take n (take m cs)) (drop n (take m cs)) in
    let a : width (take n (take m cs)) ≡ width (take n cs) = ap width front in
    let b : width (take n (take m cs) ++ drop n (take m cs)) ≡ width (take m cs) = ap width whole in
    omega (arith, a, b, more)

-- a space at the end adds nothing
pub width-snoc_space : (ds : List Cluster) (c : Cluster) → c.is_space ≡ true → width (ds ++ c ∷ []) ≡ width ds
width-snoc_space [] c h = rw h refl
width-snoc_space (d ∷ ds) c h =
    let same : all_space (d ∷ ds ++ c ∷ []) ≡ all_space (d ∷ ds) = all_space-snoc (d ∷ ds) c h in
    ap₂ (λ b x. cond b 0 (d.cells + x)) same (width-snoc_space ds c h)
  where
    all_space-snoc : (xs : List Cluster) (c : Cluster) → c.is_space ≡ true → all_space (xs ++ c ∷ []) ≡ all_space xs
    all_space-snoc [] c h = rw h refl
    all_space-snoc (x ∷ xs) c h = ap (λ b. x.is_space && b) (all_space-snoc xs c h)

-- another cluster at the end makes all cells count
pub width-snoc_word : (ds : List Cluster) (c : Cluster) → c.is_space ≡ false → width (ds ++ c ∷ []) ≡ cells_sum ds + c.cells
width-snoc_word [] c h = rw h (omega arith)
width-snoc_word (d ∷ ds) c h =
    let none : all_space (d ∷ ds ++ c ∷ []) ≡ false = all_space-word (d ∷ ds) c h in
    let more : width (ds ++ c ∷ []) ≡ cells_sum ds + c.cells = width-snoc_word ds c h in
    ap₂ (λ b x. cond b 0 (d.cells + x)) none more ∙ (let all : d.cells + (cells_sum ds + c.cells) ≡ (d.cells + cells_sum ds) + c.cells = omega arith in all)
  where
    and_false : (a : Bool) → (a && false) ≡ false
    and_false true = refl
    and_false false = refl

    all_space-word : (xs : List Cluster) (c : Cluster) → c.is_space ≡ false → all_space (xs ++ c ∷ []) ≡ false
    all_space-word [] c h = rw h refl
    all_space-word (x ∷ xs) c h = ap (λ b. x.is_space && b) (all_space-word xs c h) ∙ and_false x.is_space

pub cells_sum-append : (xs ys : List Cluster) → cells_sum (xs ++ ys) ≡ cells_sum xs + cells_sum ys
cells_sum-append [] ys = omega arith
cells_sum-append (x ∷ xs) ys = ap (λ n. x.cells + n) (cells_sum-append xs ys) ∙ (omega arith)

pub bytes_sum-append : (xs ys : List Cluster) → bytes_sum (xs ++ ys) ≡ bytes_sum xs + bytes_sum ys
bytes_sum-append [] ys = omega arith
bytes_sum-append (x ∷ xs) ys = ap (λ n. x.len + n) (bytes_sum-append xs ys) ∙ (omega arith)

width-spaces : (cs : List Cluster) → all_space cs ≡ true → width cs ≡ 0
width-spaces [] h = refl
width-spaces (c ∷ cs) h = ap (λ b. cond b 0 (c.cells + width cs)) h

and_right : (a b : Bool) → (a && b) ≡ true → b ≡ true
and_right true b h = h
and_right false b h = cc

cond_over : (b : Bool) (w n : ℕ) → (b ≡ true → w ≡ 0) → w ≤ n → w ≤ cond b 0 n
cond_over true w n h le = let none = h refl in omega arith
cond_over false w n h le = le

-- a stretch is at least as wide as its end
pub width-end : (xs ys : List Cluster) → width ys ≤ width (xs ++ ys)
width-end [] ys = omega arith
width-end (x ∷ xs) ys =
    cond_over (all_space (x ∷ xs ++ ys)) (width ys) (x.cells + width (xs ++ ys))
    (λ h. width-spaces ys (and_right (all_space (x ∷ xs)) _ (sym (list_all-append (λ d. d.is_space) (x ∷ xs) ys) ∙ h)))
    (let ih = width-end xs ys in omega arith)
