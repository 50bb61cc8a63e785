-- The script lines of mode `demo`, and how many lines of a text start with a word.
use Rattle.std.proofs.Common.{◌≡◌, ◌≢◌, ℕ, suc, ◌+◌, ◌-◌, ◌<◌, ◌≤◌, true, false, nat_eq, List, [], ◌∷◌, ◌++◌, length, get_or, take, drop, slice_range, if◌then◌else◌, ap, ap₂, sym, ◌∙◌, append_assoc, arith}
use Rattle.std.specs.List.{starts_with}
use Rattle.std.proofs.lemmas.Bool.{ne_eqb}
use Rattle.std.proofs.lemmas.List.{at_drop_more, take_more, drop_all, get_or-drop, length-drop}
use Rattle.frame_run.specs.Demo.{next_number, demo_line, demo_lines, count_starting, lines_starting}
use Rattle.frame_run.specs.Lines.{ended_lines}

-- one line of those that are left
demo_lines-more : (size x k : ℕ) → k < size → demo_lines (size - k) size x ≡ demo_line size x ++ demo_lines (size - (k + 1)) size (next_number x)
demo_lines-more size x k h =
    let e : size - k ≡ suc (size - (k + 1)) = omega arith in
    ap (λ n. demo_lines n size x) e

-- a turn of the loop over them
pub push_line : (size x y k : ℕ) (whole old new line : List ℕ) → k < size → line ≡ demo_line size x → new ≡ old ++ line → y ≡ next_number x
    → old ++ demo_lines (size - k) size x ≡ whole → new ++ demo_lines (size - (k + 1)) size y ≡ whole
push_line size x y k whole old new line h is_line pushed next so_far =
    let left = size - (k + 1) in
    ap₂ (λ t n. t ++ demo_lines left size n) (pushed ∙ ap (λ t. old ++ t) is_line) next
    ∙ append_assoc old (demo_line size x) (demo_lines left size (next_number x))
    ∙ ap (λ t. old ++ t) (sym (demo_lines-more size x k h))
    ∙ so_far

-- how many of the lines that end from a place on start with a word, where the first begins at another place
abbrev pub count_from : List ℕ → List ℕ → ℕ → ℕ → ℕ
count_from word text start i = count_starting word (ended_lines (slice_range text start i) (drop i text))

abbrev pub one_if : List ℕ → List ℕ → ℕ
one_if word line = if starts_with nat_eq line word then 1 else 0

empty_range : (text : List ℕ) (i : ℕ) → slice_range text i i ≡ []
empty_range text i =
    let e : i - i ≡ 0 = omega arith in
    ap (λ n. take n (drop i text)) e

longer_range : (text : List ℕ) (start i : ℕ) → start ≤ i → i < length text
    → slice_range text start (i + 1) ≡ slice_range text start i ++ get_or text i 0 ∷ []
longer_range text start i le lt =
    let e : (i + 1) - start ≡ (i - start) + 1 = omega arith in
    let f : start + (i - start) ≡ i = omega arith in
    ap (λ n. take n (drop start text)) e
    ∙ take_more (drop start text) (i - start) 0 (omega (arith, length-drop start text))
    ∙ ap (λ x. slice_range text start i ++ x ∷ []) (get_or-drop start text (i - start) 0 ∙ ap (λ n. get_or text n 0) f)

-- a U+000A ends a line
pub count-at_end : (word text : List ℕ) (start i : ℕ) → i < length text → get_or text i 0 ≡ 10
    → count_from word text start i ≡ one_if word (slice_range text start i) + count_from word text (i + 1) (i + 1)
count-at_end word text start i lt is =
    let line = slice_range text start i in
    let rest = drop (i + 1) text in
    at_drop_more (λ t. count_starting word (ended_lines line t)) text i 0 lt
    ∙ ap (λ x. count_starting word (ended_lines line (x ∷ rest))) is
    ∙ ap (λ t. one_if word line + count_starting word (ended_lines t rest)) (sym (empty_range text (i + 1)))

-- another byte belongs to it
pub count-within : (word text : List ℕ) (start i : ℕ) → start ≤ i → i < length text → get_or text i 0 ≢ 10
    → count_from word text start i ≡ count_from word text start (i + 1)
count-within word text start i le lt isnt =
    let line = slice_range text start i in
    let rest = drop (i + 1) text in
    let x = get_or text i 0 in
    at_drop_more (λ t. count_starting word (ended_lines line t)) text i 0 lt
    ∙ ap (λ v. count_starting word (elim v [ true ↦ line ∷ ended_lines [] rest | false ↦ ended_lines (line ++ x ∷ []) rest ])) (ne_eqb x 10 isnt)
    ∙ ap (λ t. count_starting word (ended_lines t rest)) (sym (longer_range text start i le lt))

-- a turn of the loop over a text
pub count_end : (word text : List ℕ) (start i count total new_start new_count : ℕ) → i < length text → get_or text i 0 ≡ 10
    → new_start ≡ i + 1 → new_count ≡ count + one_if word (slice_range text start i)
    → count + count_from word text start i ≡ total → new_count + count_from word text new_start (i + 1) ≡ total
count_end word text start i count total new_start new_count lt is s n so_far =
    let e = count-at_end word text start i lt is in
    let f : count_from word text new_start (i + 1) ≡ count_from word text (i + 1) (i + 1) = ap (λ a. count_from word text a (i + 1)) s in
    omega (arith, e, f, n, so_far)

pub count_more : (word text : List ℕ) (start i count total new_start new_count : ℕ) → start ≤ i → i < length text → get_or text i 0 ≢ 10
    → new_start ≡ start → new_count ≡ count
    → count + count_from word text start i ≡ total → new_count + count_from word text new_start (i + 1) ≡ total
count_more word text start i count total new_start new_count le lt isnt s n so_far =
    let e = count-within word text start i le lt isnt in
    let f : count_from word text new_start (i + 1) ≡ count_from word text start (i + 1) = ap (λ a. count_from word text a (i + 1)) s in
    omega (arith, e, f, n, so_far)

-- the turns that are left where the text ends
pub count-none : (word text : List ℕ) (start i count : ℕ) → length text ≤ i
    → count + count_from word text start i ≡ count_starting word (ended_lines [] text) → count ≡ lines_starting word text
unfolding lines_starting
count-none word text start i count past so_far =
    let e : count_from word text start i ≡ 0 = ap (λ t. count_starting word (ended_lines (slice_range text start i) t)) (drop_all i text past) in
    omega (arith, e, so_far)
