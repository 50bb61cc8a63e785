-- What a step of the code makes of the lists that its values stand for.
use Rattle.std.proofs.Common.{◌≡◌, ℕ, ◌+◌, arith, Bool, true, false, cond, ◌&&◌, ◌||◌, List, [], ◌∷◌, ◌++◌, length, ap, ap₂, refl, sym, ◌∙◌}
use Rattle.std.proofs.lemmas.List.{take_all}
use Rattle.text_cells.specs.Cluster.{Cluster, width, cells_sum, bytes_sum}
use Rattle.text_cells.specs.Line.{last_is_space}
use Rattle.text_cells.specs.Pass.{NoSpace, IsStretch, IsPiece, HoldsPending}
use Rattle.text_cells.specs.Wrapped.{is_some}
use Rattle.text_cells.specs.declared.pending.Pending.{Pending}
use Rattle.text_cells.specs.declared.stretch.Piece.{Piece}
use Rattle.text_cells.specs.declared.stretch.Stretch.{Stretch}
use Rattle.text_cells.proofs.Widths.{all_space, width-snoc_space, width-snoc_word, cells_sum-append, bytes_sum-append}
use Rattle.text_cells.proofs.Steps.{last-append}

is_some-append : (cs ds : List Cluster) → is_some (cs ++ ds) ≡ (is_some cs || is_some ds)
is_some-append [] ds = refl
is_some-append (c ∷ cs) ds = refl

is_some-snoc : (cs : List Cluster) (c : Cluster) → is_some (cs ++ c ∷ []) ≡ true
is_some-snoc [] c = refl
is_some-snoc (x ∷ cs) c = refl

pub stretch_plus : (s r : Stretch) (p : Piece) (cs : List Cluster) (c : Cluster) → IsStretch s cs → IsPiece p c
    → r.some ≡ true → r.bytes ≡ s.bytes + p.len → r.cells ≡ s.cells + p.cells → IsStretch r (cs ++ c ∷ [])
stretch_plus s r p cs c h k some bytes cells = record {
  some = some ∙ sym (is_some-snoc cs c);
  bytes = let sum = bytes_sum-append cs (c ∷ []) in let one : bytes_sum (c ∷ []) ≡ c.len = add_zero c.len in omega (arith, sum, one, bytes, h.bytes, k.len);
  cells = let sum = cells_sum-append cs (c ∷ []) in let one : cells_sum (c ∷ []) ≡ c.cells = add_zero c.cells in omega (arith, sum, one, cells, h.cells, k.cells);
}
  where
    add_zero : (n : ℕ) → n + 0 ≡ n
    add_zero n = omega arith

pub stretch_and : (s t r : Stretch) (cs ds : List Cluster) → IsStretch s cs → IsStretch t ds
    → r.some ≡ (s.some || t.some) → r.bytes ≡ s.bytes + t.bytes → r.cells ≡ s.cells + t.cells → IsStretch r (cs ++ ds)
stretch_and s t r cs ds h k some bytes cells = record {
  some = some ∙ ap₂ (λ a b. a || b) h.some k.some ∙ sym (is_some-append cs ds);
  bytes = let sum = bytes_sum-append cs ds in omega (arith, sum, bytes, h.bytes, k.bytes);
  cells = let sum = cells_sum-append cs ds in omega (arith, sum, cells, h.cells, k.cells);
}

and_false : (a : Bool) → (a && false) ≡ false
and_false true = refl
and_false false = refl

all_space-last : (z : Cluster) (zs : List Cluster) → last_is_space (z ∷ zs) ≡ false → all_space (z ∷ zs) ≡ false
all_space-last z [] h = ap (λ b. b && true) h
all_space-last z (y ∷ zs) h = ap (λ b. z.is_space && b) (all_space-last y zs h) ∙ and_false z.is_space

-- a stretch that doesn't end in a space is as wide as all its cells
width-last : (z : Cluster) (zs : List Cluster) → last_is_space (z ∷ zs) ≡ false → width (z ∷ zs) ≡ cells_sum (z ∷ zs)
width-last z [] h = ap (λ b. cond b 0 (z.cells + 0)) (all_space-last z [] h)
width-last z (y ∷ zs) h = ap₂ (λ b n. cond b 0 (z.cells + n)) (all_space-last z (y ∷ zs) h) (width-last y zs h)

width-word : (xs : List Cluster) (y : Cluster) (ys : List Cluster) → last_is_space (y ∷ ys) ≡ false → width (xs ++ y ∷ ys) ≡ cells_sum (xs ++ y ∷ ys)
width-word [] y ys h = width-last y ys h
width-word (x ∷ xs) y ys h = width-last x (xs ++ y ∷ ys) (last-append (x ∷ xs) y ys ∙ h)

word_last : (ys : List Cluster) → NoSpace ys → last_is_space ys ≡ false
word_last ys h = ap last_is_space (sym (take_all (length ys) ys (omega arith))) ∙ h (length ys)

pub width_held : (xs ys : List Cluster) → NoSpace ys → is_some ys ≡ true → width (xs ++ ys) ≡ cells_sum xs + cells_sum ys
width_held xs [] h some = cc
width_held xs (y ∷ ys) h some = width-word xs y ys (word_last (y ∷ ys) h) ∙ cells_sum-append xs (y ∷ ys)

pub width_with_word : (p : Pending) (start : ℕ) (xs ys : List Cluster) → HoldsPending p start xs ys → p.word.some ≡ true → p.before.cells + p.word.cells ≡ width (xs ++ ys)
width_with_word p start xs ys h some =
    let sum = width_held xs ys h.held.word (sym h.word.some ∙ some) in omega (arith, sum, h.before.cells, h.word.cells)

pub width_with_space : (p : Piece) (xs ys : List Cluster) (c : Cluster) (w : ℕ) → IsPiece p c → p.is_space ≡ true → w ≡ width (xs ++ ys) → w ≡ width ((xs ++ ys) ++ c ∷ [])
width_with_space p xs ys c w k space e = e ∙ sym (width-snoc_space (xs ++ ys) c (sym k.is_space ∙ space))

pub width_with_other : (q : Pending) (p : Piece) (start : ℕ) (xs ys : List Cluster) (c : Cluster) → HoldsPending q start xs ys → IsPiece p c → p.is_space ≡ false
    → q.before.cells + q.word.cells + p.cells ≡ width ((xs ++ ys) ++ c ∷ [])
width_with_other q p start xs ys c h k other =
    let wide = width-snoc_word (xs ++ ys) c (sym k.is_space ∙ other) in
    let sum = cells_sum-append xs ys in omega (arith, wide, sum, h.before.cells, h.word.cells, k.cells)
