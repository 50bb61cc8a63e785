-- Printable characters of ASCII that are clusters.
use Rattle.std.proofs.Common.{◌≡◌, ℕ, ◌+◌, ◌-◌, ◌<◌, ◌≤◌, false, true, List, [], ◌∷◌, length, take, min, ◌==◌, get_or, slice_index, slice_range, refl, sym, ap, ap₂, ◌∙◌, arith, subst, drop, take_all, length-drop, None}
use Rattle.std.proofs.lemmas.Bool.{and_parts}
use Rattle.std.proofs.lemmas.Bool.Decides.{nat_tests}
use Rattle.std.proofs.lemmas.List.{drop_more}
use Rattle.std.proofs.lemmas.Str.{IsCharBoundary-end}
use Rattle.std.specs.List.{concat}
use Rattle.std.specs.Str.{IsUtf8, IsCharBoundary}
use Rattle.unicode_segmentation.specs.Grapheme.{is_grapheme_break}
use Rattle.unicode_segmentation.specs.Segments.{segments_between}
use Rattle.unicode_segmentation.specs.Steps.{IsFirstEnd}
use Rattle.unicode_segmentation.proofs.SegmentsLemmas.{concat-segments_between}
use Rattle.text_cells.specs.Cluster.{Cluster, cells_of, cluster_of, is_space_text, is_paragraph_end}
use Rattle.text_cells.specs.Pass.{HoldsPending, TookCluster}
use Rattle.text_cells.specs.Plain.{is_plain, ends_plain}
use Rattle.text_cells.specs.Wrapped.{is_full, before_put, word_put}
use Rattle.text_cells.specs.declared.pending.Pending.{Pending}
use Rattle.text_cells.proofs.Ascii.{width_of_one}
use Rattle.text_cells.proofs.CutLemmas.{cut_none, took_cluster}
use Rattle.text_cells.proofs.PlainLemmas.{plain_end}

-- a cluster of one byte and one cell, which is a space or isn't, and doesn't end a paragraph
pub record IsSingle (byte : ℕ) (bytes : List ℕ) : Type 0 where
  pub one : length bytes ≡ 1
  pub cells : cells_of bytes ≡ 1
  pub is_space : is_space_text bytes ≡ (byte == 32)
  pub goes_on : is_paragraph_end bytes ≡ false

single : (b : ℕ) → is_plain b ≡ true → IsSingle b (b ∷ [])
single b plain = record {
  one = refl;
  cells = ap (λ n. min n 2) (width_of_one (b ∷ []) refl (let high = small b plain in omega (arith, high)));
  is_space = grind (arith, nat_tests);
  goes_on = grind (arith, nat_tests);
}
  where
    small : (c : ℕ) → is_plain c ≡ true → c < 127
    small c h = grind (arith, nat_tests)

module _ (s : List ℕ) (u : IsUtf8 s) (i : ℕ) (start : IsCharBoundary s i) (less : i < length s) (is : ends_plain s i ≡ true) where
  pub single_end : IsFirstEnd (is_grapheme_break true) s i (length s) (i + 1)
  single_end = plain_end s u i start less is

  pub single_text : IsSingle (slice_index s i) (slice_range s i (i + 1))
  single_text =
      let plain = and_parts (is_plain (slice_index s i)) _ is in
      let one : i + 1 - i ≡ 1 = omega arith in
      let bytes : slice_range s i (i + 1) ≡ get_or s i 0 ∷ [] = ap₂ (λ n t. take n t) one (drop_more s i 0 less) in
      subst (IsSingle (slice_index s i)) (sym bytes) (single (get_or s i 0) plain.0)

-- it is taken where nothing is full
pub took_single : (old new : Pending) (byte : ℕ) (bytes : List ℕ) → IsSingle byte bytes
    → ((start : ℕ) (xs ys : List Cluster) → HoldsPending old start xs ys → is_full old.limit xs ys (cluster_of bytes) ≡ false)
    → ((start : ℕ) (xs ys : List Cluster) → HoldsPending old start xs ys → is_full old.limit xs ys (cluster_of bytes) ≡ false → HoldsPending new start (before_put xs ys (cluster_of bytes)) (word_put ys (cluster_of bytes)))
    → (start : ℕ) (xs ys : List Cluster) → HoldsPending old start xs ys → TookCluster old.limit new (record { first = None; second = None }) start xs ys bytes
took_single old new byte bytes l room put start xs ys holds =
    took_cluster old old old new None None start xs ys bytes l.goes_on refl refl
    (cut_none old start xs ys (cluster_of bytes) holds (room start xs ys holds))
    (λ at vs ws h. cut_none old at vs ws (cluster_of bytes) h (room at vs ws h)) put

-- what is left of a text is as long as the rest of its bytes
pub left_bytes : (s : List ℕ) → IsUtf8 s → (i e : ℕ) → IsCharBoundary s i → i ≤ length s → e + length (concat (segments_between (is_grapheme_break true) s i (length s))) ≡ length s → e ≡ i
left_bytes s u i e start low all =
    let whole : length (concat (segments_between (is_grapheme_break true) s i (length s))) ≡ length (slice_range s i (length s)) =
    ap (λ l. length l) (concat-segments_between (is_grapheme_break true) s u i (length s) low start (IsCharBoundary-end s)) in
    let tail : slice_range s i (length s) ≡ drop i s = take_all (length s - i) (drop i s) (omega (arith, length-drop i s)) in
    let rest : length (slice_range s i (length s)) ≡ length s - i = ap (λ l. length l) tail ∙ length-drop i s in
    omega (arith, all, whole, rest, low)
