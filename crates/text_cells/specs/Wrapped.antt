-- The lines of a text as a function: one pass over its clusters. Of the present line the stretch up to its last space is
-- held, and the word after that; before a cluster that doesn't fit, the line is cut after the stretch, or after the word
-- where there is no space. These lines are the text's only wrapping.
use Rattle.std.specs.Prelude.{ℕ, ◌+◌, Bool, true, false, not, ◌&&◌, if◌then◌else◌, List, [], ◌∷◌, ◌++◌, take, length, Option}
use Rattle.unicode_segmentation.specs.Grapheme.{graphemes}
use Rattle.text_cells.specs.Cluster.{Cluster, cluster_of, is_paragraph_end, width, bytes_sum}
use Rattle.text_cells.specs.Line.{fits}
use Rattle.text_cells.specs.Wrapping.{line_of}
use Rattle.text_cells.specs.declared.line.Line.{Line}

-- there is a cluster
abbrev pub is_some : List Cluster → Bool
is_some [] = false
is_some (c ∷ cs) = true

-- something is held, and doesn't fit together with the next cluster
abbrev pub is_full : Option ℕ → List Cluster → List Cluster → Cluster → Bool
is_full limit xs ys c = is_some (xs ++ ys) && not (fits limit (width ((xs ++ ys) ++ c ∷ [])))

-- where a full line is cut: after its last space, or after its one word
abbrev pub cut_count : List Cluster → List Cluster → ℕ
cut_count [] ys = length ys
cut_count (x ∷ xs) ys = length (x ∷ xs)

-- the word that is left after the cut
abbrev pub word_left : List Cluster → List Cluster → List Cluster
word_left [] ys = []
word_left (x ∷ xs) ys = ys

-- nothing is held of a line any more, or a word, after a cut
abbrev pub before_cut : Option ℕ → List Cluster → List Cluster → Cluster → List Cluster
before_cut limit xs ys c = if is_full limit xs ys c then [] else xs

abbrev pub word_cut : Option ℕ → List Cluster → List Cluster → Cluster → List Cluster
word_cut limit xs ys c = if is_full limit xs ys c then word_left xs ys else ys

abbrev pub start_cut : Option ℕ → ℕ → List Cluster → List Cluster → Cluster → ℕ
start_cut limit start xs ys c = if is_full limit xs ys c then start + bytes_sum (take (cut_count xs ys) (xs ++ ys)) else start

-- the line that a cut gives, if the held line is full
abbrev pub cut_lines : Option ℕ → ℕ → List Cluster → List Cluster → Cluster → List Line
cut_lines limit start xs ys c = if is_full limit xs ys c then line_of start (xs ++ ys) (cut_count xs ys) ∷ [] else []

-- what is held with a cluster more
abbrev pub before_put : List Cluster → List Cluster → Cluster → List Cluster
before_put xs ys c = if c.is_space then (xs ++ ys) ++ c ∷ [] else xs

abbrev pub word_put : List Cluster → Cluster → List Cluster
word_put ys c = if c.is_space then [] else ys ++ c ∷ []

-- the lines from here on, where a stretch and a word are held of the line that began at `start`
abbrev pub text_lines : Option ℕ → ℕ → List Cluster → List Cluster → List (List ℕ) → List Line
text_lines limit start xs ys [] = line_of start (xs ++ ys) (length (xs ++ ys)) ∷ []
text_lines limit start xs ys (bytes ∷ rest) =
    elim (is_paragraph_end bytes) [
      | true ↦ line_of start (xs ++ ys) (length (xs ++ ys)) ∷ text_lines limit ((start + bytes_sum (xs ++ ys)) + length bytes) [] [] rest
      | false ↦
          let c = cluster_of bytes in
          let vs = before_cut limit xs ys c in
          let ws = word_cut limit xs ys c in
          let at = start_cut limit start xs ys c in
          let us = before_cut limit vs ws c in
          let zs = word_cut limit vs ws c in
          cut_lines limit start xs ys c ++ (cut_lines limit at vs ws c
          ++ text_lines limit (start_cut limit at vs ws c) (before_put us zs c) (word_put zs c) rest)
    ]

-- the lines of a text at a limit of cells, where there is one
unfoldable pub wrapped : Option ℕ → List ℕ → List Line
wrapped limit text = text_lines limit 0 [] [] (graphemes true text)
