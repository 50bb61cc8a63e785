-- From one cluster of a text to the next.
use Rattle.std.proofs.Common.{◌≡◌, ℕ, ◌+◌, ◌≤◌, arith, true, List, [], ◌∷◌, ◌++◌, length, Option, Some, None, max, ap, ap₂, refl, sym, ◌∙◌, subst, append_assoc, append-nil}
use Rattle.std.specs.List.{concat}
use Rattle.std.specs.Str.{IsUtf8}
use Rattle.std.proofs.lemmas.List.{length-append}
use Rattle.unicode_segmentation.specs.Grapheme.{graphemes, is_grapheme_break}
use Rattle.unicode_segmentation.proofs.SegmentsLemmas.{concat-segments}
use Rattle.fx_geom.specs.declared.shapes.Size.{Size}
use Rattle.text_cells.specs.Cluster.{Cluster}
use Rattle.text_cells.specs.Wrapping.{widest}
use Rattle.text_cells.specs.Pass.{HoldsPending, Ends, TookCluster, MidText, Counted, HasExtent, end_of, listed, ended_lines}
use Rattle.text_cells.specs.Wrapped.{text_lines, wrapped}
use Rattle.text_cells.specs.declared.line.Line.{Line}
use Rattle.text_cells.specs.declared.pending.Pending.{Pending}
use Rattle.text_cells.specs.declared.pending.EndedLines.{EndedLines}
use Rattle.std.proofs.lemmas.Grind.{common_steps}

pub midway_first : (limit : Option ℕ) (p : Pending) (done : List Line) (left : List (List ℕ)) (text : List ℕ) → IsUtf8 text → p.limit ≡ limit → HoldsPending p 0 [] []
    → end_of p ≡ 0 → done ≡ [] → left ≡ graphemes true text → MidText limit p done left (graphemes true text) (length text)
midway_first limit p done left text valid same holds end none all = record {
  start = 0;
  before = [];
  word = [];
  holds = holds;
  same = same;
  lines = ap₂ (λ d l. d ++ text_lines limit 0 [] [] l) none all;
  end = ap₂ (λ a b. a + length (concat b)) end all ∙ (let whole = ap length (concat-segments (is_grapheme_break true) text valid) in omega arith);
}

pub midway_next : (limit : Option ℕ) (p new : Pending) (ended : EndedLines) (done done' : List Line) (left rest all : List (List ℕ)) (b : List ℕ) (len : ℕ)
    → MidText limit p done left all len → left ≡ b ∷ rest
    → ((start : ℕ) (xs ys : List Cluster) → HoldsPending p start xs ys → TookCluster p.limit new ended start xs ys b)
    → new.limit ≡ p.limit → end_of new ≡ end_of p + length b → done' ≡ done ++ ended_lines ended → MidText limit new done' rest all len
midway_next limit p new ended done done' left rest all b len m is took same end more =
    let t = took m.start m.before m.word m.holds in
    let lines : text_lines limit m.start m.before m.word (b ∷ rest) ≡ ended_lines ended ++ text_lines limit t.start t.before t.word rest =
    let P : Option ℕ → Type 0 = λ l. text_lines l m.start m.before m.word (b ∷ rest) ≡ ended_lines ended ++ text_lines l t.start t.before t.word rest in subst P m.same (t.lines rest) in
    record {
      start = t.start;
      before = t.before;
      word = t.word;
      holds = t.holds;
      same = same ∙ m.same;
      lines = ap (λ d. d ++ text_lines limit t.start t.before t.word rest) more ∙ append_assoc done (ended_lines ended) _
          ∙ ap (λ l. done ++ l) (sym lines) ∙ ap (λ l. done ++ text_lines limit m.start m.before m.word l) (sym is) ∙ m.lines;
      end = let bytes : length (concat left) ≡ length b + length (concat rest) = ap (λ l. length (concat l)) is ∙ length-append b (concat rest) in
          let before = m.end in omega arith;
    }

-- the lines that ended and the last one are all lines of the text
pub midway_whole : (limit : Option ℕ) (p : Pending) (line : Line) (done : List Line) (left : List (List ℕ)) (text : List ℕ) (len : ℕ)
    → MidText limit p done left (graphemes true text) len → left ≡ [] → ((start : ℕ) (xs ys : List Cluster) → HoldsPending p start xs ys → Ends p line start xs ys)
    → done ++ line ∷ [] ≡ wrapped limit text
unfolding wrapped
midway_whole limit p line done left text len m is ends =
    let last = ends m.start m.before m.word m.holds in
    ap (λ l. done ++ l ∷ []) last.line ∙ ap (λ l. done ++ text_lines limit m.start m.before m.word l) (sym is) ∙ m.lines

pub widest-append : (xs ys : List Line) → widest (xs ++ ys) ≡ max (widest xs) (widest ys)
widest-append [] ys = grind arith
widest-append (x ∷ xs) ys = let ih = widest-append xs ys in grind arith

pub listed_few : (line : Option Line) → length (listed line) ≤ 1
listed_few None = grind (arith, common_steps)
listed_few (Some line) = grind (arith, common_steps)

pub counted_next : (limit : Option ℕ) (p new : Pending) (ended : EndedLines) (count one two cells wide wider : ℕ) (left rest all : List (List ℕ)) (b : List ℕ) (len : ℕ)
    → Counted limit p count cells left all len → left ≡ b ∷ rest
    → ((start : ℕ) (xs ys : List Cluster) → HoldsPending p start xs ys → TookCluster p.limit new ended start xs ys b)
    → new.limit ≡ p.limit → end_of new ≡ end_of p + length b
    → one ≡ count + length (listed ended.first) → two ≡ one + length (listed ended.second)
    → wide ≡ max cells (widest (listed ended.first)) → wider ≡ max wide (widest (listed ended.second))
    → Counted limit new two wider rest all len
counted_next limit p new ended count one two cells wide wider left rest all b len k is took same end e f g h =
    let lines = k.done ++ ended_lines ended in
    let all_len = length-append k.done (ended_lines ended) in
    let ended_len = length-append (listed ended.first) (listed ended.second) in
    let all_wide = widest-append k.done (ended_lines ended) in
    let ended_wide = widest-append (listed ended.first) (listed ended.second) in
    let number = k.number in
    let width = k.width in
    record {
      done = lines;
      midway = midway_next limit p new ended k.done lines left rest all b len k.midway is took same end refl;
      number = omega arith;
      width = grind arith;
    }

-- a cluster at which no line ends
pub counted_on : (limit : Option ℕ) (p new : Pending) (count cells : ℕ) (left rest all : List (List ℕ)) (b : List ℕ) (len : ℕ)
    → Counted limit p count cells left all len → left ≡ b ∷ rest
    → ((start : ℕ) (xs ys : List Cluster) → HoldsPending p start xs ys → TookCluster p.limit new (record { first = None; second = None }) start xs ys b)
    → new.limit ≡ p.limit → end_of new ≡ end_of p + length b → Counted limit new count cells rest all len
counted_on limit p new count cells left rest all b len k is took same end = record {
  done = k.done;
  midway = midway_next limit p new (record { first = None; second = None }) k.done k.done left rest all b len k.midway is took same end (sym (append-nil k.done));
  number = k.number;
  width = k.width;
}

pub counted_lines : (limit : Option ℕ) (p : Pending) (line : Line) (count cells one wide : ℕ) (left : List (List ℕ)) (text : List ℕ) (len : ℕ)
    → Counted limit p count cells left (graphemes true text) len → left ≡ []
    → ((start : ℕ) (xs ys : List Cluster) → HoldsPending p start xs ys → Ends p line start xs ys)
    → one ≡ count + length (line ∷ []) → wide ≡ max cells (widest (line ∷ [])) → HasExtent limit text one wide
counted_lines limit p line count cells one wide left text len k is ends e f =
    let all_len = length-append k.done (line ∷ []) in
    let all_wide = widest-append k.done (line ∷ []) in
    let number = k.number in
    let width = k.width in
    let whole = midway_whole limit p line k.done left text len k.midway is ends in
    record {
      number = (let counted : one ≡ length (k.done ++ line ∷ []) = omega arith in counted) ∙ ap length whole;
      width = f ∙ ap (λ n. max n (widest (line ∷ []))) width ∙ sym all_wide ∙ ap widest whole;
    }

abbrev size_from : ℕ → ℕ → Size
size_from w h = record { w = w; h = h }

pub size_by : (w h w' h' : ℕ) → w ≡ w' → h ≡ h' → size_from w h ≡ size_from w' h'
size_by w h w' h' a b = ap (λ n. size_from n h) a ∙ ap (λ n. size_from w' n) b
