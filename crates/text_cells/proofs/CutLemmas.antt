-- What a cut and a put of the code make of the lists that are held.
use Rattle.std.proofs.Common.{◌≡◌, ℕ, ◌+◌, arith, Bool, true, false, cond, List, [], ◌∷◌, ◌++◌, take, length, Option, Some, None, ap, ap₂, refl, sym, ◌∙◌, subst, append_assoc}
use Rattle.std.proofs.Math.Seq.{take-append_seam}
use Rattle.std.proofs.lemmas.List.{take_all}
use Rattle.text_cells.specs.Cluster.{Cluster, width, cells_sum, bytes_sum, is_paragraph_end, cluster_of, cells_of, is_space_text}
use Rattle.text_cells.specs.Wrapping.{line_of}
use Rattle.text_cells.specs.Pass.{IsHeld, IsStretch, IsPiece, HoldsPending, Cuts, Ends, TookCluster, listed}
use Rattle.text_cells.specs.Wrapped.{is_some, is_full, cut_count, word_left, before_cut, word_cut, start_cut, cut_lines, before_put, word_put, text_lines}
use Rattle.text_cells.specs.declared.line.Line.{Line}
use Rattle.text_cells.specs.declared.pending.Pending.{Pending}
use Rattle.text_cells.specs.declared.stretch.Piece.{Piece}
use Rattle.text_cells.specs.declared.stretch.Stretch.{Stretch}
use Rattle.text_cells.proofs.Found.{cut_held_word, cut_twice, put_held}
use Rattle.text_cells.proofs.Widths.{bytes_sum-append}
use Rattle.text_cells.proofs.PassLemmas.{width_held}

pub cut_none : (p : Pending) (start : ℕ) (xs ys : List Cluster) (c : Cluster) → HoldsPending p start xs ys → is_full p.limit xs ys c ≡ false → Cuts p p None start xs ys c
cut_none p start xs ys c h e = record {
  lines = sym (ap (λ b. cond b (line_of start (xs ++ ys) (cut_count xs ys) ∷ []) []) e);
  holds = let P : Bool → Type 0 = λ b. HoldsPending p (cond b (start + bytes_sum (take (cut_count xs ys) (xs ++ ys))) start) (cond b [] xs) (cond b (word_left xs ys) ys) in
      subst P (sym e) h;
}

-- a full line, where its first part is cut off
cut_full : (old new : Pending) (line : Line) (start : ℕ) (xs ys : List Cluster) (c : Cluster) → is_full old.limit xs ys c ≡ true
    → line ≡ line_of start (xs ++ ys) (cut_count xs ys) → HoldsPending new (start + bytes_sum (take (cut_count xs ys) (xs ++ ys))) [] (word_left xs ys)
    → Cuts old new (Some line) start xs ys c
cut_full old new line start xs ys c e is h = record {
  lines = ap (λ l. l ∷ []) is ∙ sym (ap (λ b. cond b (line_of start (xs ++ ys) (cut_count xs ys) ∷ []) []) e);
  holds = let P : Bool → Type 0 = λ b. HoldsPending new (cond b (start + bytes_sum (take (cut_count xs ys) (xs ++ ys))) start) (cond b [] xs) (cond b (word_left xs ys) ys) in
      subst P (sym e) h;
}

pub nothing_held : (s : Stretch) → s.some ≡ false → s.bytes ≡ 0 → s.cells ≡ 0 → IsStretch s []
nothing_held s some bytes cells = record { some = some; bytes = bytes; cells = cells }

abbrev line_from : ℕ → ℕ → ℕ → Line
line_from start end cells = record { start = start; end = end; cells = cells }

line_by : (start end cells : ℕ) (start' end' cells' : ℕ) → start ≡ start' → end ≡ end' → cells ≡ cells' → line_from start end cells ≡ line_from start' end' cells'
line_by start end cells start' end' cells' a b c =
    ap (λ s. line_from s end cells) a ∙ ap (λ e. line_from start' e cells) b ∙ ap (λ n. line_from start' end' n) c

pub cut_before : (old new : Pending) (line : Line) (start : ℕ) (xs ys : List Cluster) (c : Cluster) → HoldsPending old start xs ys → is_full old.limit xs ys c ≡ true
    → old.before.some ≡ true → line ≡ record { start = old.start; end = old.start + old.before.bytes; cells = old.before_width }
    → new.limit ≡ old.limit → new.start ≡ old.start + old.before.bytes → IsStretch new.before [] → new.before_width ≡ 0 → new.word ≡ old.word
    → Cuts old new (Some line) start xs ys c
cut_before old new line start [] ys c h full some is limit begins before none word = absurd (let e : true ≡ false = sym some ∙ h.before.some in cc)
cut_before old new line start (x ∷ xs) ys c h full some is limit begins before none word =
    let front : take (length (x ∷ xs)) ((x ∷ xs) ++ ys) ≡ x ∷ xs = take-append_seam (x ∷ xs) ys in
    let bytes : old.before.bytes ≡ bytes_sum (take (length (x ∷ xs)) ((x ∷ xs) ++ ys)) = h.before.bytes ∙ sym (ap bytes_sum front) in
    cut_full old new line start (x ∷ xs) ys c full
    (is ∙ line_by _ _ _ _ _ _ h.begins (ap₂ (λ a b. a + b) h.begins bytes) (h.before_width ∙ sym (ap width front)))
    (record {
      begins = begins ∙ ap₂ (λ a b. a + b) h.begins bytes;
      before = before;
      before_width = none;
      word = let P : Stretch → Type 0 = λ s. IsStretch s ys in subst P (sym word) h.word;
      held = let P : Option ℕ → Type 0 = λ l. IsHeld l [] ys in subst P (sym limit) (cut_held_word old.limit (x ∷ xs) ys h.held);
    })

pub cut_word : (old new : Pending) (line : Line) (start : ℕ) (xs ys : List Cluster) (c : Cluster) → HoldsPending old start xs ys → is_full old.limit xs ys c ≡ true
    → old.before.some ≡ false → line ≡ record { start = old.start; end = old.start + old.word.bytes; cells = old.word.cells }
    → new.limit ≡ old.limit → new.start ≡ old.start + old.word.bytes → new.before ≡ old.before → new.before_width ≡ old.before_width → IsStretch new.word []
    → Cuts old new (Some line) start xs ys c
cut_word old new line start (x ∷ xs) ys c h full some is limit begins before wide word = absurd (let e : true ≡ false = sym h.before.some ∙ some in cc)
cut_word old new line start [] ys c h full some is limit begins before wide word =
    let whole : take (length ys) ys ≡ ys = take_all (length ys) ys (omega arith) in
    let bytes : old.word.bytes ≡ bytes_sum (take (length ys) ys) = h.word.bytes ∙ sym (ap bytes_sum whole) in
    cut_full old new line start [] ys c full
    (is ∙ line_by _ _ _ _ _ _ h.begins (ap₂ (λ a b. a + b) h.begins bytes)
    (h.word.cells ∙ sym (width_held [] ys h.held.word (some_word old.limit ys c full) ∙ no_more (cells_sum ys)) ∙ sym (ap width whole)))
    (record {
      begins = begins ∙ ap₂ (λ a b. a + b) h.begins bytes;
      before = let P : Stretch → Type 0 = λ s. IsStretch s [] in subst P (sym before) h.before;
      before_width = wide ∙ h.before_width;
      word = word;
      held = let P : Option ℕ → Type 0 = λ l. IsHeld l [] [] in subst P (sym limit) (cut_held_word old.limit [] ys h.held);
    })
  where
    no_more : (n : ℕ) → 0 + n ≡ n
    no_more n = omega arith

    some_word : (limit : Option ℕ) (ys : List Cluster) (c : Cluster) → is_full limit [] ys c ≡ true → is_some ys ≡ true
    some_word limit [] c h = h
    some_word limit (y ∷ ys) c h = refl

-- a cluster is put where there is room for it
pub put_space : (old new : Pending) (p : Piece) (start : ℕ) (xs ys : List Cluster) (c : Cluster) → HoldsPending old start xs ys → IsPiece p c → is_full old.limit xs ys c ≡ false
    → p.is_space ≡ true → new.limit ≡ old.limit → new.start ≡ old.start → IsStretch new.before ((xs ++ ys) ++ c ∷ []) → new.before_width ≡ width ((xs ++ ys) ++ c ∷ [])
    → IsStretch new.word [] → HoldsPending new start (before_put xs ys c) (word_put ys c)
put_space old new p start xs ys c h k room space limit begins before wide word =
    let e : c.is_space ≡ true = sym k.is_space ∙ space in
    let held : IsHeld new.limit (before_put xs ys c) (word_put ys c) = let P : Option ℕ → Type 0 = λ l. IsHeld l (before_put xs ys c) (word_put ys c) in subst P (sym limit) (put_held old.limit xs ys c h.held room) in
    record {
      begins = begins ∙ h.begins;
      before = let P : Bool → Type 0 = λ b. IsStretch new.before (cond b ((xs ++ ys) ++ c ∷ []) xs) in subst P (sym e) before;
      before_width = wide ∙ sym (ap (λ b. width (cond b ((xs ++ ys) ++ c ∷ []) xs)) e);
      word = let P : Bool → Type 0 = λ b. IsStretch new.word (cond b [] (ys ++ c ∷ [])) in subst P (sym e) word;
      held = held;
    }

pub put_other : (old new : Pending) (p : Piece) (start : ℕ) (xs ys : List Cluster) (c : Cluster) → HoldsPending old start xs ys → IsPiece p c → is_full old.limit xs ys c ≡ false
    → p.is_space ≡ false → new.limit ≡ old.limit → new.start ≡ old.start → new.before ≡ old.before → new.before_width ≡ old.before_width
    → IsStretch new.word (ys ++ c ∷ []) → HoldsPending new start (before_put xs ys c) (word_put ys c)
put_other old new p start xs ys c h k room other limit begins before wide word =
    let e : c.is_space ≡ false = sym k.is_space ∙ other in
    let held : IsHeld new.limit (before_put xs ys c) (word_put ys c) = let P : Option ℕ → Type 0 = λ l. IsHeld l (before_put xs ys c) (word_put ys c) in subst P (sym limit) (put_held old.limit xs ys c h.held room) in
    record {
      begins = begins ∙ h.begins;
      before = let P : Bool → Type 0 = λ b. IsStretch new.before (cond b ((xs ++ ys) ++ c ∷ []) xs) in subst P (sym e)
          (let Q : Stretch → Type 0 = λ s. IsStretch s xs in subst Q (sym before) h.before);
      before_width = wide ∙ h.before_width ∙ sym (ap (λ b. width (cond b ((xs ++ ys) ++ c ∷ []) xs)) e);
      word = let P : Bool → Type 0 = λ b. IsStretch new.word (cond b [] (ys ++ c ∷ [])) in subst P (sym e) word;
      held = held;
    }

pub line_last : (p : Pending) (line : Line) (w start : ℕ) (xs ys : List Cluster) → HoldsPending p start xs ys → w ≡ width (xs ++ ys)
    → line ≡ record { start = p.start; end = p.start + (p.before.bytes + p.word.bytes); cells = w } → Ends p line start xs ys
line_last p line w start xs ys h wide is =
    let whole : take (length (xs ++ ys)) (xs ++ ys) ≡ xs ++ ys = take_all (length (xs ++ ys)) (xs ++ ys) (omega arith) in
    let sum = bytes_sum-append xs ys in
    let bytes : p.before.bytes + p.word.bytes ≡ bytes_sum (xs ++ ys) = omega (arith, sum, h.before.bytes, h.word.bytes) in
    record { line = is ∙ line_by _ _ _ _ _ _ h.begins (ap₂ (λ a b. a + b) h.begins (bytes ∙ sym (ap bytes_sum whole))) (wide ∙ sym (ap width whole)) }

-- the lines from a cluster on, where it ends a paragraph and where it doesn't
abbrev pub ends_or : Bool → Option ℕ → ℕ → List Cluster → List Cluster → List ℕ → List (List ℕ) → List Line
ends_or p limit at xs ys bytes rest =
    let c = cluster_of bytes in
    let vs = before_cut limit xs ys c in
    let ws = word_cut limit xs ys c in
    let mid = start_cut limit at xs ys c in
    let us = before_cut limit vs ws c in
    let zs = word_cut limit vs ws c in
    elim p [
      | true ↦ line_of at (xs ++ ys) (length (xs ++ ys)) ∷ text_lines limit ((at + bytes_sum (xs ++ ys)) + length bytes) [] [] rest
      | false ↦ cut_lines limit at xs ys c ++ (cut_lines limit mid vs ws c ++ text_lines limit (start_cut limit mid vs ws c) (before_put us zs c) (word_put zs c) rest)
    ]

abbrev end_in : Line → ℕ
end_in l = l.end

-- a cluster that ends a paragraph
pub took_end : (old new : Pending) (line : Line) (limit : Option ℕ) (at : ℕ) (xs ys : List Cluster) (bytes : List ℕ) → Ends old line at xs ys
    → is_paragraph_end bytes ≡ true → HoldsPending new (line.end + length bytes) [] [] → TookCluster limit new (record { first = Some line; second = None }) at xs ys bytes
took_end old new line limit at xs ys bytes ends e holds =
    let whole : take (length (xs ++ ys)) (xs ++ ys) ≡ xs ++ ys = take_all (length (xs ++ ys)) (xs ++ ys) (omega arith) in
    let end : line.end ≡ at + bytes_sum (xs ++ ys) = ap end_in ends.line ∙ ap (λ t. at + bytes_sum t) whole in
    record {
      start = (at + bytes_sum (xs ++ ys)) + length bytes;
      before = [];
      word = [];
      holds = let P : ℕ → Type 0 = λ n. HoldsPending new (n + length bytes) [] [] in subst P end holds;
      lines = λ rest. ap (λ p. ends_or p limit at xs ys bytes rest) e ∙ ap (λ l. l ∷ text_lines limit ((at + bytes_sum (xs ++ ys)) + length bytes) [] [] rest) (sym ends.line);
    }

-- another cluster, before which the present line may have been cut twice
pub took_cluster : (old one two new : Pending) (first second : Option Line) (at : ℕ) (xs ys : List Cluster) (bytes : List ℕ)
    → is_paragraph_end bytes ≡ false → one.limit ≡ old.limit → two.limit ≡ old.limit → Cuts old one first at xs ys (cluster_of bytes)
    → ((start : ℕ) (vs ws : List Cluster) → HoldsPending one start vs ws → Cuts one two second start vs ws (cluster_of bytes))
    → ((start : ℕ) (vs ws : List Cluster) → HoldsPending two start vs ws → is_full two.limit vs ws (cluster_of bytes) ≡ false
    → HoldsPending new start (before_put vs ws (cluster_of bytes)) (word_put ws (cluster_of bytes)))
    → TookCluster old.limit new (record { first = first; second = second }) at xs ys bytes
took_cluster old one two new first second at xs ys bytes e same_one same_two cut_first cut_second put =
    let c = cluster_of bytes in
    let limit = old.limit in
    let vs = before_cut limit xs ys c in
    let ws = word_cut limit xs ys c in
    let mid = start_cut limit at xs ys c in
    let us = before_cut limit vs ws c in
    let zs = word_cut limit vs ws c in
    let begun = start_cut limit mid vs ws c in
    let second_cuts = cut_second mid vs ws cut_first.holds in
    let P : Option ℕ → Type 0 = λ l. HoldsPending two (start_cut l mid vs ws c) (before_cut l vs ws c) (word_cut l vs ws c) in
    let held : HoldsPending two begun us zs = subst P same_one second_cuts.holds in
    let room : is_full two.limit us zs c ≡ false = ap (λ l. is_full l us zs c) same_two ∙ cut_twice limit xs ys c in
    record {
      start = begun;
      before = before_put us zs c;
      word = word_put zs c;
      holds = put begun us zs held room;
      lines = λ rest.
          let more = text_lines limit begun (before_put us zs c) (word_put zs c) rest in
          ap (λ p. ends_or p limit at xs ys bytes rest) e
          ∙ ap₂ (λ a b. a ++ (b ++ more)) (sym cut_first.lines) (sym (second_cuts.lines ∙ ap (λ l. cut_lines l mid vs ws c) same_one))
          ∙ sym (append_assoc (listed first) (listed second) more);
    }

pub piece_is : (p : Piece) (bytes : List ℕ) → p.len ≡ length bytes → p.cells ≡ cells_of bytes → p.is_space ≡ is_space_text bytes → IsPiece p (cluster_of bytes)
piece_is p bytes len cells space = record { len = len; cells = cells; is_space = space }
