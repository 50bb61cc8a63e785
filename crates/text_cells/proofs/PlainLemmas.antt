-- Where a cluster ends: after a printable character of ASCII that one follows, and where the cursor comes to.
use Rattle.std.proofs.Common.{◌≡◌, ◌≢◌, ℕ, zero, suc, ◌+◌, ◌-◌, ◌<◌, ◌≤◌, ⊎_elim, Bool, true, false, cond, not, ◌||◌, ◌==◌, List, [], ◌∷◌, length, take, drop, get_or, slice_index, slice_range, refl, sym, ap, ap₂, ◌∙◌, subst, arith, eqb-true, length-drop, take_all, IsNone}
use Rattle.std.proofs.lemmas.Bool.{cases_lt, and_parts, or_cases}
use Rattle.std.proofs.lemmas.Bool.Decides.{nat_tests}
use Rattle.std.proofs.lemmas.List.{drop_more}
use Rattle.std.proofs.lemmas.Str.{IsCharBoundary-after_ascii, IsCharBoundary-end, IsUtf8-drop}
use Rattle.std.proofs.lemmas.Str.Ascii.{encode_ascii}
use Rattle.std.specs.Prelude.{encode_utf8_all}
use Rattle.std.specs.Str.{IsUtf8, IsCharBoundary}
use Rattle.ucd_table.proofs.Facts.{Stepped-below}
use Rattle.ucd_breaks.specs.GraphemeClusterBreak.{grapheme_cluster_break, grapheme_cluster_break_number}
use Rattle.ucd_breaks.specs.declared.GraphemeClusterBreak.TheVariants.{Other}
use Rattle.ucd_breaks.proofs.Computing.{ucd_breaks}
use Rattle.ucd_breaks.proofs.GraphemeClusterBreakLemmas.{grapheme_cluster_break_stepped, grapheme_cluster_break_number_injective}
use Rattle.unicode_segmentation.specs.Cursor.{IsCursorOn, IsNextBoundary, KeepsKind, cursor_offset, cursor_is_resuming, cursor_awaits, search_start}
use Rattle.unicode_segmentation.specs.Grapheme.{is_grapheme_break}
use Rattle.unicode_segmentation.specs.Segments.{Rule, breaks_at, chars_before, chars_from}
use Rattle.unicode_segmentation.specs.Steps.{IsCharAt, IsFirstEnd}
use Rattle.unicode_segmentation.specs.declared.grapheme.cursor.GraphemeCursor.{GraphemeCursor}
use Rattle.unicode_segmentation.proofs.CursorLemmas.{no_boundary_inside}
use Rattle.unicode_segmentation.proofs.GraphemeLemmas.{is_grapheme_break-others}
use Rattle.unicode_segmentation.proofs.SegmentsLemmas.{IsWalk, IsWalk-start, IsWalk-step, IsFirstEnd-at_break, IsFirstEnd-at_end}
use Rattle.unicode_segmentation.proofs.TextLemmas.{IsCharAt-from_bytes, IsCharAt-first}
use Rattle.text_cells.specs.Plain.{is_plain, ends_plain, StandsOn}

-- ---- printable characters of ASCII

plain_small : (b : ℕ) → is_plain b ≡ true → b < 127
plain_small b h = grind (arith, nat_tests)

either : (a b : Bool) → a ≡ true → (not a || b) ≡ true → b ≡ true
either true b h k = k
either false b h k = cc

plain_other : (c : ℕ) → is_plain c ≡ true → Other ≡ grapheme_cluster_break c
unfolding ucd_breaks
plain_other c h =
    let test = Stepped-below grapheme_cluster_break grapheme_cluster_break_stepped (λ x v. not (is_plain x) || (grapheme_cluster_break_number v == 12)) 127 refl c (plain_small c h) in
    sym (grapheme_cluster_break_number_injective _ Other (eqb-true _ 12 (either (is_plain c) _ h test)))

-- the character of a byte of ASCII
ascii_char : (s : List ℕ) → IsUtf8 s → (i : ℕ) → IsCharBoundary s i → i < length s → get_or s i 0 < 128 → IsCharAt s i (get_or s i 0) (i + 1)
ascii_char s u i start less small =
    let one : i + 1 - i ≡ 1 = omega arith in
    let bytes : slice_range s i (i + 1) ≡ get_or s i 0 ∷ [] = ap₂ (λ n t. take n t) one (drop_more s i 0 less) in
    IsCharAt-from_bytes s u i (get_or s i 0) (i + 1) (omega arith) start (IsCharBoundary-after_ascii s i u less small) (bytes ∙ sym (encode_ascii (get_or s i 0) small))

break_after : (s : List ℕ) (i c j d k : ℕ) → IsCharAt s i c j → IsCharAt s j d k → is_plain c ≡ true → is_plain d ≡ true
    → breaks_at (is_grapheme_break true) s j ≡ true
break_after s i c j d k one two left right =
    let small = plain_small d right in
    ap₂ (is_grapheme_break true) one.before two.from
    ∙ sym (is_grapheme_break-others true (c ∷ chars_before s i) d (chars_from s k) (omega arith) (omega arith) (plain_other c left) (plain_other d right))

pub plain_end : (s : List ℕ) → IsUtf8 s → (i : ℕ) → IsCharBoundary s i → i < length s → ends_plain s i ≡ true
    → IsFirstEnd (is_grapheme_break true) s i (length s) (i + 1)
plain_end s u i start less plain =
    let parts = and_parts (is_plain (slice_index s i)) _ plain in
    let small = plain_small (slice_index s i) parts.0 in
    let here = ascii_char s u i start less (omega arith) in
    let walk = IsWalk-start (is_grapheme_break true) s u i (length s) (get_or s i 0) (i + 1) here (omega arith) (IsCharBoundary-end s) in
    let last : length s ≤ i + 1 → IsFirstEnd (is_grapheme_break true) s i (length s) (i + 1) =
    λ ends. IsFirstEnd-at_end (is_grapheme_break true) s u i (length s) (i + 1) walk ends in
    ⊎_elim
    (λ end. let same = eqb-true (i + 1) (length s) end in last (omega arith))
    (λ next.
    ⊎_elim
    (λ more.
    let also = plain_small (slice_index s (i + 1)) next in
    let there = ascii_char s u (i + 1) here.end_boundary more (omega arith) in
    IsFirstEnd-at_break (is_grapheme_break true) s u i (length s) (i + 1) walk
    (break_after s i (get_or s i 0) (i + 1) (get_or s (i + 1) 0) (i + 1 + 1) here there parts.0 next))
    last (cases_lt (i + 1) (length s)))
    (or_cases (i + 1 == length s) (is_plain (slice_index s (i + 1))) parts.1)

-- ---- the cursor

char_there : (s : List ℕ) → IsUtf8 s → (i : ℕ) → IsCharBoundary s i → i < length s → (c : ℕ) × (j : ℕ) × IsCharAt s i c j
char_there s u i start less = let part = IsUtf8-drop s i u start in first part.0 part.1.1
  where
    first : (cs : List ℕ) → encode_utf8_all cs ≡ drop i s → (c : ℕ) × (j : ℕ) × IsCharAt s i c j
    first [] e = absurd (let none : 0 ≡ length (drop i s) = ap length e in omega (arith, length-drop i s))
    first (c ∷ cs) e =
        let whole : slice_range s i (length s) ≡ drop i s = take_all (length s - i) (drop i s) (omega (arith, length-drop i s)) in
        (c, length s - length (encode_utf8_all cs), IsCharAt-first s u i (length s) c (encode_utf8_all cs) (omega arith) start (IsCharBoundary-end s) (whole ∙ sym e))

module _ (rule : Rule) (s : List ℕ) (u : IsUtf8 s) (from end : ℕ) (cut : IsCharBoundary s end) where
  -- a character that begins before a boundary ends before it or at it
  within : (i c j : ℕ) → IsCharAt s i c j → i < end → j ≤ end
  within i c j h less = ⊎_elim (λ beyond. absurd (no_boundary_inside s u i c j end h less beyond cut)) (λ le. le) (cases_lt end j)

  walk_on : breaks_at rule s end ≡ true → ((k : ℕ) → from + 1 ≤ k → k < end → IsCharBoundary s k → breaks_at rule s k ≡ false)
      → (fuel i : ℕ) → IsWalk rule s from (length s) i → i ≤ end → end ≤ i + fuel → IsFirstEnd rule s from (length s) end
  walk_on broken none zero i w le ge =
      let same : i ≡ end = omega arith in
      let P : ℕ → Type 0 = λ n. IsWalk rule s from (length s) n in
      IsFirstEnd-at_break rule s u from (length s) end (subst P same w) broken
  walk_on broken none (suc fuel) i w le ge =
      ⊎_elim
      (λ less.
      let bound = cut.0 in
      let some = w.grows in
      let next = char_there s u i w.boundary (omega arith) in
      let fits = within i next.0 next.1 next.2 less in
      let more = next.2.grows in
      walk_on broken none fuel next.1
      (IsWalk-step rule s u from (length s) i next.0 next.1 w (none i (omega arith) less w.boundary) next.2 (omega arith) (IsCharBoundary-end s))
      fits (omega arith))
      (λ ge.
      let same : i ≡ end = omega arith in
      let P : ℕ → Type 0 = λ n. IsWalk rule s from (length s) n in
      IsFirstEnd-at_break rule s u from (length s) end (subst P same w) broken)
      (cases_lt i end)

  first_from : from < end → IsCharBoundary s from → breaks_at rule s end ≡ true
      → ((k : ℕ) → from + 1 ≤ k → k < end → IsCharBoundary s k → breaks_at rule s k ≡ false) → IsFirstEnd rule s from (length s) end
  first_from less start broken none =
      let bound = cut.0 in
      let next = char_there s u from start (omega arith) in
      let fits = within from next.0 next.1 next.2 less in
      walk_on broken none end next.1
      (IsWalk-start rule s u from (length s) next.0 next.1 next.2 (omega arith) (IsCharBoundary-end s)) fits (omega arith)

pub cursor_end : (s : List ℕ) (old new : GraphemeCursor) (at end : ℕ) → IsCharBoundary s at → StandsOn old s → cursor_offset old ≡ at → IsCursorOn new s
    → IsNextBoundary old new s end → IsFirstEnd (is_grapheme_break true) s at (length s) end
cursor_end s old new at end start h place on next =
    let from : search_start old ≡ at + 1 = ap (λ b. cond b (cursor_offset old) (cursor_offset old + 1)) h.idle ∙ ap (λ n. n + 1) place in
    let ahead = next.ahead in
    let P : ℕ → Type 0 = λ n. IsCharBoundary s n in
    first_from (is_grapheme_break true) s on.utf8 at end (subst P next.moved on.boundary) (omega arith) start
    (ap (λ b. breaks_at (is_grapheme_break b) s end) (sym h.extended) ∙ next.boundary)
    (λ k low high cut. ap (λ b. breaks_at (is_grapheme_break b) s k) (sym h.extended) ∙ next.first k (omega arith) high cut)

pub stands_past : (s : List ℕ) (old new : GraphemeCursor) (end : ℕ) → StandsOn old s → IsCursorOn new s → KeepsKind old new → IsNone (cursor_awaits new)
    → IsNextBoundary old new s end → StandsOn new s
stands_past s old new end h on kind asks next = record { on = on; extended = kind.is_extended ∙ h.extended; idle = next.done; asks = asks }

pub stands_at : (s : List ℕ) (old new : GraphemeCursor) (at : ℕ) → StandsOn old s → IsCharBoundary s at
    → ((text : List ℕ) → IsCursorOn old text → IsCharBoundary text at → IsCursorOn new text) → KeepsKind old new → (at ≡ cursor_offset old → new ≡ old)
    → (at ≢ cursor_offset old → (cursor_is_resuming new ≡ false) × IsNone (cursor_awaits new)) → StandsOn new s
stands_at s old new at h cut on kind same fresh =
    elim (at == cursor_offset old) as (λ b. (at == cursor_offset old) ≡ b → StandsOn new s) [
      | true ↦ λ e. let P : GraphemeCursor → Type 0 = λ k. StandsOn k s in subst P (sym (same (eqb-true at (cursor_offset old) e))) h
      | false ↦ λ e.
          let f = fresh (λ is. not_equal at (cursor_offset old) e is) in
          record { on = on s h.on cut; extended = kind.is_extended ∙ h.extended; idle = f.0; asks = f.1 }
    ] refl
  where
    not_equal : (m n : ℕ) → (m == n) ≡ false → m ≡ n → ⊥
    not_equal m n e is = grind arith
