-- Lines lie in their text: each begins and ends between two clusters.
use Rattle.std.proofs.Common.{◌≡◌, ℕ, ◌+◌, ◌≤◌, arith, true, false, cond, List, [], ◌∷◌, ◌++◌, map, take, drop, length, Option, ap, ap₂, refl, sym, ◌∙◌, subst, append_assoc}
use Rattle.std.specs.List.{All, concat}
use Rattle.std.specs.Str.{IsUtf8, IsCharBoundary}
use Rattle.std.proofs.lemmas.List.{take-map, drop-map, take-append-drop, length-append, append-nil}
use Rattle.std.proofs.lemmas.List.Elements.{All-nil, All-cons, All-head, All-tail, All-append, All-weaker}
use Rattle.std.proofs.lemmas.List.Folds.{concat-append}
use Rattle.std.proofs.lemmas.Str.{IsCharBoundary-end}
use Rattle.unicode_segmentation.specs.Grapheme.{graphemes, is_grapheme_break}
use Rattle.unicode_segmentation.specs.Segments.{with_offsets}
use Rattle.unicode_segmentation.proofs.SegmentsLemmas.{concat-segments, IsPieceOf, All-IsPieceOf}
use Rattle.text_cells.specs.Cluster.{Cluster, Paragraph, paragraph, paragraphs, with_first, cluster_of, is_paragraph_end, bytes_sum}
use Rattle.text_cells.specs.LineText.{LiesInText}
use Rattle.text_cells.specs.Wrapped.{wrapped}
use Rattle.text_cells.specs.Wrapping.{lines_of, AreWrapped}
use Rattle.text_cells.specs.declared.line.Line.{Line}
use Rattle.text_cells.proofs.Found.{wrapped_wraps}

-- n is where some front of the clusters ends
record IsSeam (all : List (List ℕ)) (n : ℕ) : Type 0 where
  front : List (List ℕ)
  back : List (List ℕ)
  split : all ≡ front ++ back
  bytes : n ≡ length (concat front)

record IsBetween (all : List (List ℕ)) (line : Line) : Type 0 where
  in_order : line.start ≤ line.end
  start : IsSeam all line.start
  end : IsSeam all line.end

-- ---- the lines of a paragraph

clusters-bytes : (bs : List (List ℕ)) → bytes_sum (map cluster_of bs) ≡ length (concat bs)
clusters-bytes [] = refl
clusters-bytes (b ∷ bs) = ap (λ n. length b + n) (clusters-bytes bs) ∙ sym (length-append b (concat bs))

lines_between : (all front part back : List (List ℕ)) (start : ℕ) (counts : List ℕ) → all ≡ front ++ (part ++ back) → start ≡ length (concat front)
    → All (IsBetween all) (lines_of start (map cluster_of part) counts)
lines_between all front part back start [] split bytes = All-nil (IsBetween all)
lines_between all front part back start (n ∷ more) split bytes =
    let here = take n part in
    let rest = drop n part in
    let taken : bytes_sum (take n (map cluster_of part)) ≡ length (concat here) = ap bytes_sum (take-map cluster_of n part) ∙ clusters-bytes here in
    let next : start + bytes_sum (take n (map cluster_of part)) ≡ length (concat (front ++ here)) =
    ap₂ (λ a b. a + b) bytes taken ∙ sym (length-append (concat front) (concat here)) ∙ ap length (sym (concat-append front here)) in
    let apart : all ≡ (front ++ here) ++ (rest ++ back) =
    split ∙ ap (λ p. front ++ (p ++ back)) (sym (take-append-drop n part)) ∙ ap (λ t. front ++ t) (append_assoc here rest back)
    ∙ sym (append_assoc front here (rest ++ back)) in
    let at = start + bytes_sum (take n (map cluster_of part)) in
    All-cons (IsBetween all) _ _
    (record {
      in_order = omega arith;
      start = record { front = front; back = part ++ back; split = split; bytes = bytes };
      end = record { front = front ++ here; back = rest ++ back; split = apart; bytes = next };
    })
    (let P : List Cluster → Type 0 = λ left. All (IsBetween all) (lines_of at left more) in
    subst P (sym (drop-map cluster_of n part)) (lines_between all (front ++ here) rest back at more apart next))

-- ---- the paragraphs of a text

record IsPart (all : List (List ℕ)) (p : Paragraph) : Type 0 where
  front : List (List ℕ)
  part : List (List ℕ)
  back : List (List ℕ)
  split : all ≡ front ++ (part ++ back)
  bytes : p.start ≡ length (concat front)
  clusters : p.clusters ≡ map cluster_of part

-- the first paragraph of what is left, and the others
record HasParts (all bs : List (List ℕ)) (at : ℕ) (ps : List Paragraph) : Type 0 where
  part : List (List ℕ)
  back : List (List ℕ)
  others : List Paragraph
  split : bs ≡ part ++ back
  first : ps ≡ paragraph at (map cluster_of part) ∷ others
  rest : All (IsPart all) others

all_parts : (all front bs : List (List ℕ)) (at : ℕ) (ps : List Paragraph) → all ≡ front ++ bs → at ≡ length (concat front) → HasParts all bs at ps
    → All (IsPart all) ps
all_parts all front bs at ps split bytes h =
    let P : List Paragraph → Type 0 = λ t. All (IsPart all) t in
    subst P (sym h.first) (All-cons (IsPart all) _ _
    (record { front = front; part = h.part; back = h.back; split = split ∙ ap (λ t. front ++ t) h.split; bytes = bytes; clusters = refl }) h.rest)

paragraphs-parts : (all front bs : List (List ℕ)) (at : ℕ) → all ≡ front ++ bs → at ≡ length (concat front) → HasParts all bs at (paragraphs at bs)
paragraphs-parts all front [] at split bytes =
    record { part = []; back = []; others = []; split = refl; first = refl; rest = All-nil (IsPart all) }
paragraphs-parts all front (b ∷ bs) at split bytes =
    let later = split ∙ sym (append_assoc front (b ∷ []) bs) in
    let one : length (concat (b ∷ [])) ≡ length b = ap length (append-nil b) in
    let joined : length (concat (front ++ b ∷ [])) ≡ length (concat front) + length (concat (b ∷ [])) =
    ap length (concat-append front (b ∷ [])) ∙ length-append (concat front) (concat (b ∷ [])) in
    let next : at + length b ≡ length (concat (front ++ b ∷ [])) = omega (arith, bytes, one, joined) in
    let h = paragraphs-parts all (front ++ b ∷ []) bs (at + length b) later next in
    elim (is_paragraph_end b)
    as (λ e. HasParts all (b ∷ bs) at (cond e (paragraph at [] ∷ paragraphs (at + length b) bs) (with_first at (cluster_of b) (paragraphs (at + length b) bs)))) [
      | true ↦ record {
        part = [];
        back = b ∷ bs;
        others = paragraphs (at + length b) bs;
        split = refl;
        first = refl;
        rest = all_parts all (front ++ b ∷ []) bs (at + length b) _ later next h;
      }
      | false ↦ record {
        part = b ∷ h.part;
        back = h.back;
        others = h.others;
        split = ap (λ t. b ∷ t) h.split;
        first = ap (with_first at (cluster_of b)) h.first;
        rest = h.rest;
      }
    ]

wrapped_between : (limit : Option ℕ) (all : List (List ℕ)) (ps : List Paragraph) (lines : List Line) → All (IsPart all) ps → AreWrapped limit ps lines
    → All (IsBetween all) lines
wrapped_between limit all [] lines parts none =
    let P : List Line → Type 0 = λ t. All (IsBetween all) t in subst P (sym none) (All-nil (IsBetween all))
wrapped_between limit all (p ∷ ps) lines parts (counts, rest, are, is, more) =
    let part = All-head (IsPart all) p ps parts in
    let own = lines_between all part.front part.part part.back p.start counts part.split part.bytes in
    let Q : List Cluster → Type 0 = λ t. All (IsBetween all) (lines_of p.start t counts) in
    let P : List Line → Type 0 = λ t. All (IsBetween all) t in
    subst P (sym is) (All-append (IsBetween all) _ rest (subst Q (sym part.clusters) own)
    (wrapped_between limit all ps rest (All-tail (IsPart all) p ps parts) more))

-- ---- a seam is a place between characters

pieces_seam : (text : List ℕ) (at : ℕ) (front : List (List ℕ)) (b : List ℕ) (back : List (List ℕ))
    → All (IsPieceOf text) (with_offsets at (front ++ b ∷ back)) → IsCharBoundary text (at + length (concat front))
unfolding with_offsets
pieces_seam text at [] b back pieces =
    let here = (All-head (IsPieceOf text) _ _ pieces).start in
    let P : ℕ → Type 0 = λ n. IsCharBoundary text n in subst P (omega arith) here
pieces_seam text at (f ∷ front) b back pieces =
    let here = pieces_seam text (at + length f) front b back (All-tail (IsPieceOf text) _ _ pieces) in
    let joined = length-append f (concat front) in
    let P : ℕ → Type 0 = λ n. IsCharBoundary text n in subst P (omega (arith, joined)) here

seam-boundary : (text : List ℕ) (n : ℕ) → IsUtf8 text → IsSeam (graphemes true text) n → IsCharBoundary text n
seam-boundary text n utf8 s = by_back s.back s.split
  where
    P : ℕ → Type 0
    P m = IsCharBoundary text m

    by_back : (back : List (List ℕ)) → graphemes true text ≡ s.front ++ back → IsCharBoundary text n
    by_back [] split =
        let whole : length (concat s.front) ≡ length text =
        ap (λ t. length (concat t)) (sym (split ∙ append-nil s.front)) ∙ ap length (concat-segments (is_grapheme_break true) text utf8) in
        subst (λ m. IsCharBoundary text m) (sym (s.bytes ∙ whole)) (IsCharBoundary-end text)
    by_back (b ∷ back) split =
        let pieces = subst (λ t. All (IsPieceOf text) (with_offsets 0 t)) split (All-IsPieceOf (is_grapheme_break true) text utf8) in
        let here = pieces_seam text 0 s.front b back pieces in
        subst (λ m. IsCharBoundary text m) (let same : 0 + length (concat s.front) ≡ n = omega (arith, s.bytes) in same) here

pub wrapped-LiesIn : (limit : Option ℕ) (text : List ℕ) → IsUtf8 text → All (LiesInText text) (wrapped limit text)
wrapped-LiesIn limit text utf8 =
    let all = graphemes true text in
    let parts = all_parts all [] all 0 (paragraphs 0 all) refl refl (paragraphs-parts all [] all 0 refl refl) in
    All-weaker (IsBetween all) (LiesInText text)
    (λ line between. record {
      in_order = between.in_order;
      start = seam-boundary text line.start utf8 between.start;
      end = seam-boundary text line.end utf8 between.end;
    })
    (wrapped limit text) (wrapped_between limit all (paragraphs 0 all) (wrapped limit text) parts (wrapped_wraps limit text))
