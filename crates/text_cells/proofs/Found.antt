-- The lines that the pass finds are those of the definition.
use Rattle.std.proofs.Common.{◌≡◌, ℕ, zero, suc, ◌+◌, ◌≤◌, ◌⊎◌, inl, inr, arith, Bool, true, false, not, cond, ◌&&◌, List, [], ◌∷◌, ◌++◌, take, length, Option, Some, None, ap, ap₂, refl, sym, ◌∙◌, subst, append_assoc, nat_le}
use Rattle.std.proofs.Math.Seq.{take-append_seam}
use Rattle.std.proofs.lemmas.List.{take_all, length-append, append-nil}
use Rattle.std.proofs.lemmas.Grind.{common_steps}
use Rattle.text_cells.specs.Cluster.{Cluster, Paragraph, paragraph, paragraphs, with_first, cluster_of, is_paragraph_end, width, bytes_sum}
use Rattle.text_cells.specs.Line.{fits, last_is_space, IsBreak, IsLine, AreLines}
use Rattle.unicode_segmentation.specs.Grapheme.{graphemes}
use Rattle.text_cells.specs.Wrapping.{line_of, lines_of, AreWrapped, IsWrapping}
use Rattle.text_cells.specs.declared.line.Line.{Line}
use Rattle.text_cells.proofs.Only.{wrapping_only}
use Rattle.text_cells.proofs.Widths.{width-end, bytes_sum-append}
use Rattle.text_cells.specs.Pass.{NoSpace, IsHeld}
use Rattle.text_cells.specs.Wrapped.{is_some, is_full, cut_count, word_left, before_cut, word_cut, start_cut, cut_lines, before_put, word_put, text_lines, wrapped}
use Rattle.text_cells.proofs.Steps.{left_of, line_full, cut_less, drop_cut, take_cut, lines_more, break_held, fits_more, last-append, word_none}

-- ---- what is held keeps its facts

pub held_nothing : (limit : Option ℕ) → IsHeld limit [] []
held_nothing limit = record { space = inl refl; word = word_none; fit = inr (omega arith) }

pub cut_held_word : (limit : Option ℕ) (xs ys : List Cluster) → IsHeld limit xs ys → IsHeld limit [] (word_left xs ys)
cut_held_word limit [] ys h = held_nothing limit
cut_held_word limit (x ∷ xs) ys h = record { space = inl refl; word = h.word; fit = by_fit h.fit }
  where
    by_fit : (fits limit (width ((x ∷ xs) ++ ys)) ≡ true) ⊎ (length ((x ∷ xs) ++ ys) ≤ 1) → (fits limit (width ys) ≡ true) ⊎ (length ys ≤ 1)
    by_fit (inl fit) = inl (fits_more limit _ _ (width-end (x ∷ xs) ys) fit)
    by_fit (inr one) = inr (let sum = length-append (x ∷ xs) ys in omega arith)

pub held_cut : (limit : Option ℕ) (xs ys : List Cluster) (c : Cluster) → IsHeld limit xs ys → IsHeld limit (before_cut limit xs ys c) (word_cut limit xs ys c)
held_cut limit xs ys c h =
    elim (is_full limit xs ys c) as (λ b. IsHeld limit (cond b [] xs) (cond b (word_left xs ys) ys)) [ true ↦ cut_held_word limit xs ys h | false ↦ h ]

-- after two cuts there is room for the cluster
nothing_full : (limit : Option ℕ) (c : Cluster) → is_full limit [] [] c ≡ false
nothing_full limit c = refl

cut_word_twice : (limit : Option ℕ) (ys : List Cluster) (c : Cluster) → is_full limit (before_cut limit [] ys c) (word_cut limit [] ys c) c ≡ false
cut_word_twice limit ys c =
    elim (is_full limit [] ys c) as (λ b. b ≡ is_full limit [] ys c → is_full limit (cond b [] []) (cond b [] ys) c ≡ false)
    [ true ↦ λ e. refl | false ↦ λ e. sym e ] refl

pub cut_twice : (limit : Option ℕ) (xs ys : List Cluster) (c : Cluster)
    → let vs = before_cut limit xs ys c in let ws = word_cut limit xs ys c in is_full limit (before_cut limit vs ws c) (word_cut limit vs ws c) c ≡ false
cut_twice limit [] ys c =
    elim (is_full limit [] ys c) as (λ b. b ≡ is_full limit [] ys c
    → is_full limit (before_cut limit (cond b [] []) (cond b [] ys) c) (word_cut limit (cond b [] []) (cond b [] ys) c) c ≡ false)
    [ true ↦ λ e. refl | false ↦ λ e. cut_word_twice limit ys c ] refl
cut_twice limit (x ∷ xs) ys c =
    elim (is_full limit (x ∷ xs) ys c) as (λ b. b ≡ is_full limit (x ∷ xs) ys c
    → is_full limit (before_cut limit (cond b [] (x ∷ xs)) (cond b ys ys) c) (word_cut limit (cond b [] (x ∷ xs)) (cond b ys ys) c) c ≡ false)
    [ true ↦ λ e. cut_word_twice limit ys c | false ↦ λ e. ap (λ b. is_full limit (cond b [] (x ∷ xs)) (cond b ys ys) c) (sym e) ∙ sym e ] refl

-- ---- a cluster is put

room_for : (hs : List Cluster) (f : Bool) → (is_some hs && not f) ≡ false → (hs ≡ []) ⊎ (f ≡ true)
room_for [] f h = inl refl
room_for (x ∷ xs) true h = inr refl
room_for (x ∷ xs) false h = cc

pub all_put : (xs ys : List Cluster) (c : Cluster) → before_put xs ys c ++ word_put ys c ≡ (xs ++ ys) ++ c ∷ []
all_put xs ys c =
    elim c.is_space as (λ b. (cond b ((xs ++ ys) ++ c ∷ []) xs) ++ (cond b [] (ys ++ c ∷ [])) ≡ (xs ++ ys) ++ c ∷ [])
    [ true ↦ append-nil _ | false ↦ sym (append_assoc xs ys (c ∷ [])) ]

fit_put : (limit : Option ℕ) (xs ys : List Cluster) (c : Cluster) → (xs ++ ys ≡ []) ⊎ (fits limit (width ((xs ++ ys) ++ c ∷ [])) ≡ true)
    → (fits limit (width (before_put xs ys c ++ word_put ys c)) ≡ true) ⊎ (length (before_put xs ys c ++ word_put ys c) ≤ 1)
fit_put limit xs ys c (inl none) =
    inr (let one : length (before_put xs ys c ++ word_put ys c) ≡ 1 = ap length (all_put xs ys c) ∙ ap (λ t. length (t ++ c ∷ [])) none in omega arith)
fit_put limit xs ys c (inr fit) = inl (ap (λ t. fits limit (width t)) (all_put xs ys c) ∙ fit)

word_more : (ys : List Cluster) (c : Cluster) → NoSpace ys → c.is_space ≡ false → NoSpace (ys ++ c ∷ [])
word_more [] c h e zero = refl
word_more [] c h e (suc zero) = e
word_more [] c h e (suc (suc n)) = e
word_more (y ∷ []) c h e zero = refl
word_more (y ∷ []) c h e (suc zero) = h 1
word_more (y ∷ []) c h e (suc (suc n)) = word_more [] c word_none e (suc n)
word_more (y ∷ z ∷ ys) c h e zero = refl
word_more (y ∷ z ∷ ys) c h e (suc zero) = h 1
word_more (y ∷ z ∷ ys) c h e (suc (suc n)) = word_more (z ∷ ys) c (word_rest y z ys h) e (suc n)
  where
    word_rest : (y z : Cluster) (ys : List Cluster) → NoSpace (y ∷ z ∷ ys) → NoSpace (z ∷ ys)
    word_rest y z ys h zero = refl
    word_rest y z ys h (suc n) = h (suc (suc n))

pub put_held : (limit : Option ℕ) (xs ys : List Cluster) (c : Cluster) → IsHeld limit xs ys → is_full limit xs ys c ≡ false
    → IsHeld limit (before_put xs ys c) (word_put ys c)
put_held limit xs ys c h room = record {
  space = elim c.is_space as (λ b. c.is_space ≡ b → (cond b ((xs ++ ys) ++ c ∷ []) xs ≡ []) ⊎ (last_is_space (cond b ((xs ++ ys) ++ c ∷ []) xs) ≡ true))
      [ true ↦ λ e. inr (last-append (xs ++ ys) c [] ∙ e) | false ↦ λ e. h.space ] refl;
  word = elim c.is_space as (λ b. c.is_space ≡ b → NoSpace (cond b [] (ys ++ c ∷ [])))
      [ true ↦ λ e. word_none | false ↦ λ e. word_more ys c h.word e ] refl;
  fit = fit_put limit xs ys c (room_for (xs ++ ys) _ room);
}

-- ---- the lines of a text

-- where the present line's end stands doesn't change by a cut
pub bytes_cut : (limit : Option ℕ) (start : ℕ) (xs ys : List Cluster) (c : Cluster)
    → start_cut limit start xs ys c + bytes_sum (before_cut limit xs ys c ++ word_cut limit xs ys c) ≡ start + bytes_sum (xs ++ ys)
bytes_cut limit start xs ys c =
    elim (is_full limit xs ys c) as (λ b. cond b (start + bytes_sum (take (cut_count xs ys) (xs ++ ys))) start + bytes_sum (cond b [] xs ++ cond b (word_left xs ys) ys)
    ≡ start + bytes_sum (xs ++ ys))
    [ true ↦ both xs ys | false ↦ refl ]
  where
    both : (xs ys : List Cluster) → start + bytes_sum (take (cut_count xs ys) (xs ++ ys)) + bytes_sum ([] ++ word_left xs ys) ≡ start + bytes_sum (xs ++ ys)
    both [] ys = let whole : bytes_sum (take (length ys) ys) ≡ bytes_sum ys = ap bytes_sum (take_all (length ys) ys (omega arith)) in
        let none : bytes_sum [] ≡ 0 = refl in omega arith
    both (x ∷ xs) ys =
        let front : bytes_sum (take (length (x ∷ xs)) ((x ∷ xs) ++ ys)) ≡ bytes_sum (x ∷ xs) = ap bytes_sum (take-append_seam (x ∷ xs) ys) in
        let sum = bytes_sum-append (x ∷ xs) ys in omega arith

lines_front : (start : ℕ) (xs ys : List Cluster) (c : Cluster) (more : List Cluster) (counts : List ℕ) (rest lines : List Line)
    → lines ≡ lines_of (start + bytes_sum (take (cut_count xs ys) (xs ++ ys))) (left_of [] (word_left xs ys) c more) counts ++ rest
    → line_of start (xs ++ ys) (cut_count xs ys) ∷ lines ≡ lines_of start (left_of xs ys c more) (cut_count xs ys ∷ counts) ++ rest
lines_front start xs ys c more counts rest lines is =
    let front = sym (take_cut xs ys (c ∷ more)) in
    ap₂ (λ l ls. l ∷ ls)
    (ap (λ t. let l : Line = record { start = start; end = start + bytes_sum t; cells = width t } in l) front)
    (is ∙ ap (λ ls. ls ++ rest) (ap₂ (λ t d. lines_of (start + bytes_sum t) d counts) front (sym (drop_cut xs ys c more))))

-- one cut: the lines of what is left after it, and the line that it gave
cut_wrapped : (limit : Option ℕ) (start : ℕ) (xs ys : List Cluster) (c : Cluster) (more : List Cluster) (ps : List Paragraph) (lines : List Line)
    → IsHeld limit xs ys
    → AreWrapped limit (paragraph (start_cut limit start xs ys c) (left_of (before_cut limit xs ys c) (word_cut limit xs ys c) c more) ∷ ps) lines
    → AreWrapped limit (paragraph start (left_of xs ys c more) ∷ ps) (cut_lines limit start xs ys c ++ lines)
cut_wrapped limit start xs ys c more ps lines h =
    elim (is_full limit xs ys c) as (λ b. is_full limit xs ys c ≡ b
    → AreWrapped limit (paragraph (cond b (start + bytes_sum (take (cut_count xs ys) (xs ++ ys))) start) (left_of (cond b [] xs) (cond b (word_left xs ys) ys) c more) ∷ ps) lines
    → AreWrapped limit (paragraph start (left_of xs ys c more) ∷ ps) (cond b (line_of start (xs ++ ys) (cut_count xs ys) ∷ []) [] ++ lines)) [
      | true ↦ λ full (counts, rest, are, is, wrapped). (
        cut_count xs ys ∷ counts,
        rest,
        lines_more limit _ _ counts (line_full limit xs ys c more h full) (cut_less xs ys c more)
            (let P : List Cluster → Type 0 = λ t. AreLines limit t counts in subst P (sym (drop_cut xs ys c more)) are),
        lines_front start xs ys c more counts rest lines is,
        wrapped,
      )
      | false ↦ λ full w. w
    ] refl

-- the paragraphs of clusters begin where the first cluster does
pub paragraphs_first : (at : ℕ) (bs : List (List ℕ)) → (cs : List Cluster) × (ps : List Paragraph) × (paragraphs at bs ≡ paragraph at cs ∷ ps)
paragraphs_first at [] = ([], [], refl)
paragraphs_first at (b ∷ bs) =
    let (cs, ps, is) = paragraphs_first (at + length b) bs in
    elim (is_paragraph_end b) as (λ e. (cs : List Cluster) × (ps : List Paragraph)
    × (cond e (paragraph at [] ∷ paragraphs (at + length b) bs) (with_first at (cluster_of b) (paragraphs (at + length b) bs)) ≡ paragraph at cs ∷ ps))
    [ true ↦ ([], paragraphs (at + length b) bs, refl) | false ↦ (cluster_of b ∷ cs, ps, ap (with_first at (cluster_of b)) is) ]

-- the paragraphs with what is held in front of the first one
abbrev pub with_held : ℕ → List Cluster → List Paragraph → List Paragraph
with_held start hs [] = []
with_held start hs (p ∷ ps) = paragraph start (hs ++ p.clusters) ∷ ps

-- ---- the end of a paragraph

fits_nothing : (limit : Option ℕ) → fits limit 0 ≡ true
fits_nothing None = refl
fits_nothing (Some n) = none_le n
  where
    none_le : (n : ℕ) → nat_le 0 n ≡ true
    none_le n = grind arith

no_wide_nothing : (limit : Option ℕ) (hs : List Cluster) → fits limit (width hs) ≡ false → 1 ≤ length hs
no_wide_nothing limit [] over = absurd (let e : true ≡ false = sym (fits_nothing limit) ∙ over in cc)
no_wide_nothing limit (h ∷ hs) over = grind (arith, common_steps)

cut_one : (xs ys : List Cluster) → length (xs ++ ys) ≡ 1 → cut_count xs ys ≡ 1
cut_one [] ys one = one
cut_one (x ∷ xs) ys one = let sum = length-append (x ∷ xs) ys in let some : 1 ≤ length (x ∷ xs) = grind (arith, common_steps) in omega arith

wide_last : (limit : Option ℕ) (xs ys : List Cluster) → IsHeld limit xs ys → fits limit (width (xs ++ ys)) ≡ false → length (xs ++ ys) ≡ 1
    → IsLine limit (xs ++ ys) (length (xs ++ ys))
wide_last limit xs ys h over one =
    let some : is_some (xs ++ ys) ≡ true = is_some_one (xs ++ ys) one in
    let broken : IsBreak ((xs ++ ys) ++ []) (length (xs ++ ys)) (cut_count xs ys) = break_held xs ys [] h.space h.word some in
    let broken_whole : IsBreak (xs ++ ys) (length (xs ++ ys)) (cut_count xs ys) =
    let P : List Cluster → Type 0 = λ t. IsBreak t (length (xs ++ ys)) (cut_count xs ys) in subst P (append-nil (xs ++ ys)) broken in
    inr (
      over,
      (
        length (xs ++ ys),
        record {
          some = omega arith;
          there = omega arith;
          fit = inr one;
          most = λ n less there. absurd (omega arith);
        },
        (let P : ℕ → Type 0 = λ k. IsBreak (xs ++ ys) (length (xs ++ ys)) k in subst P (cut_one xs ys one ∙ sym one) broken_whole),
      ),
    )
  where
    is_some_one : (hs : List Cluster) → length hs ≡ 1 → is_some hs ≡ true
    is_some_one [] e = absurd (let none : length {A = Cluster} [] ≡ 0 = refl in omega arith)
    is_some_one (h ∷ hs) e = refl

last_line : (limit : Option ℕ) (xs ys : List Cluster) → IsHeld limit xs ys → IsLine limit (xs ++ ys) (length (xs ++ ys))
last_line limit xs ys h =
    elim (fits limit (width (xs ++ ys))) as (λ b. fits limit (width (xs ++ ys)) ≡ b → IsLine limit (xs ++ ys) (length (xs ++ ys))) [
      | true ↦ λ e. inl (e, refl)
      | false ↦ λ e. wide_last limit xs ys h e (one_long h.fit e)
    ] refl
  where
    one_long : (fits limit (width (xs ++ ys)) ≡ true) ⊎ (length (xs ++ ys) ≤ 1) → fits limit (width (xs ++ ys)) ≡ false → length (xs ++ ys) ≡ 1
    one_long (inl fit) e = absurd (let no : true ≡ false = sym fit ∙ e in cc)
    one_long (inr one) e = let some = no_wide_nothing limit (xs ++ ys) e in omega arith

end_wrapped : (limit : Option ℕ) (start : ℕ) (xs ys left : List Cluster) (ps : List Paragraph) (lines : List Line) → IsHeld limit xs ys
    → left ≡ xs ++ ys → AreWrapped limit ps lines
    → AreWrapped limit (paragraph start left ∷ ps) (line_of start (xs ++ ys) (length (xs ++ ys)) ∷ lines)
end_wrapped limit start xs ys left ps lines h e wrapped =
    let P : List Cluster → Type 0 = λ t. AreWrapped limit (paragraph start t ∷ ps) (line_of start (xs ++ ys) (length (xs ++ ys)) ∷ lines) in
    subst P (sym e) (length (xs ++ ys) ∷ [], lines, (last_line limit xs ys h, refl), refl, wrapped)

-- ---- the whole text

held_none : (at : ℕ) (bs : List (List ℕ)) → with_held at [] (paragraphs at bs) ≡ paragraphs at bs
held_none at bs = let (cs, ps, is) = paragraphs_first at bs in ap (with_held at []) is ∙ sym is

pub text_found : (limit : Option ℕ) (start : ℕ) (xs ys : List Cluster) (at : ℕ) (bs : List (List ℕ)) → IsHeld limit xs ys → at ≡ start + bytes_sum (xs ++ ys)
    → AreWrapped limit (with_held start (xs ++ ys) (paragraphs at bs)) (text_lines limit start xs ys bs)
text_found limit start xs ys at [] h e = end_wrapped limit start xs ys _ [] [] h (append-nil (xs ++ ys)) refl
text_found limit start xs ys at (b ∷ bs) h e =
    let c = cluster_of b in
    let vs = before_cut limit xs ys c in
    let ws = word_cut limit xs ys c in
    let mid = start_cut limit start xs ys c in
    let us = before_cut limit vs ws c in
    let zs = word_cut limit vs ws c in
    let begun = start_cut limit mid vs ws c in
    let (cs, ps, is) = paragraphs_first (at + length b) bs in
    let held_v = held_cut limit xs ys c h in
    let held_u = held_cut limit vs ws c held_v in
    let held_p = put_held limit us zs c held_u (cut_twice limit xs ys c) in
    let place : at + length b ≡ begun + bytes_sum (before_put us zs c ++ word_put zs c) =
    (let one = bytes_cut limit start xs ys c in let two = bytes_cut limit mid vs ws c in
    let put : bytes_sum (before_put us zs c ++ word_put zs c) ≡ bytes_sum (us ++ zs) + length b = ap bytes_sum (all_put us zs c) ∙ bytes_sum-append (us ++ zs) (c ∷ []) ∙ (omega arith) in
    omega (arith, one, two, put, e)) in
    let rest = text_found limit begun (before_put us zs c) (word_put zs c) (at + length b) bs held_p place in
    let start_end = (start + bytes_sum (xs ++ ys)) + length b in
    let rest_end = text_found limit start_end [] [] (at + length b) bs (held_nothing limit) (let none : bytes_sum [] ≡ 0 = refl in omega arith) in
    elim (is_paragraph_end b)
    as (λ p. AreWrapped limit (with_held start (xs ++ ys) (cond p (paragraph at [] ∷ paragraphs (at + length b) bs) (with_first at c (paragraphs (at + length b) bs))))
    (elim p [
      | true ↦ line_of start (xs ++ ys) (length (xs ++ ys)) ∷ text_lines limit start_end [] [] bs
      | false ↦ cut_lines limit start xs ys c ++ (cut_lines limit mid vs ws c ++ text_lines limit begun (before_put us zs c) (word_put zs c) bs)
    ])) [
      | true ↦
          end_wrapped limit start xs ys ((xs ++ ys) ++ []) (paragraphs (at + length b) bs) (text_lines limit start_end [] [] bs) h (append-nil (xs ++ ys))
          (let P : List Paragraph → Type 0 = λ t. AreWrapped limit t (text_lines limit start_end [] [] bs) in
          let same : start_end ≡ at + length b = omega arith in
          subst P (ap (λ s. with_held s [] (paragraphs (at + length b) bs)) same ∙ held_none (at + length b) bs) rest_end)
      | false ↦
          let lines = text_lines limit begun (before_put us zs c) (word_put zs c) bs in
          let P : List Paragraph → Type 0 = λ t. AreWrapped limit t lines in
          let after : (before_put us zs c ++ word_put zs c) ++ cs ≡ left_of us zs c cs = ap (λ t. t ++ cs) (all_put us zs c) ∙ append_assoc (us ++ zs) (c ∷ []) cs in
          let put : AreWrapped limit (paragraph begun (left_of us zs c cs) ∷ ps) lines =
          subst P (ap (with_held begun (before_put us zs c ++ word_put zs c)) is ∙ ap (λ t. paragraph begun t ∷ ps) after) rest in
          let second = cut_wrapped limit mid vs ws c cs ps lines held_v put in
          let first = cut_wrapped limit start xs ys c cs ps _ h second in
          let Q : List Paragraph → Type 0 = λ t. AreWrapped limit t (cut_lines limit start xs ys c ++ (cut_lines limit mid vs ws c ++ lines)) in
          subst Q (sym (ap (λ t. with_held start (xs ++ ys) (with_first at c t)) is)) first
    ]

-- the lines of a text are a wrapping
pub wrapped_wraps : (limit : Option ℕ) (text : List ℕ) → IsWrapping limit text (wrapped limit text)
unfolding wrapped
wrapped_wraps limit text =
    let bs = graphemes true text in
    let P : List Paragraph → Type 0 = λ t. AreWrapped limit t (text_lines limit 0 [] [] bs) in
    subst P (held_none 0 bs) (text_found limit 0 [] [] 0 bs (held_nothing limit) refl)

-- and the only one
pub wrapping_is : (limit : Option ℕ) (text : List ℕ) (lines : List Line) → IsWrapping limit text lines → lines ≡ wrapped limit text
wrapping_is limit text lines w = wrapping_only limit _ lines (wrapped limit text) w (wrapped_wraps limit text)
