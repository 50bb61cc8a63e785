-- Grapheme clusters of a text as lines see them, and the paragraphs that they form.
use Rattle.std.specs.Prelude.{ℕ, ◌+◌, ◌||◌, min, Bool, false, if◌then◌else◌, List, [], ◌∷◌, length, chars}
use Rattle.std.specs.Str.{bytes_eq}
use Rattle.std.specs.List.{list_all}
use Rattle.unicode_width.specs.Width.{str_width}

-- a cluster: its bytes, the cells that it takes, and whether it is U+0020
pub record Cluster : Type 0 where
  pub len : ℕ
  pub cells : ℕ
  pub is_space : Bool

-- a cluster takes its width in cells, at most 2
abbrev pub cells_of : List ℕ → ℕ
cells_of bytes = min (str_width false (chars bytes)) 2

abbrev pub is_space_text : List ℕ → Bool
is_space_text bytes = bytes_eq bytes (32 ∷ [])

abbrev pub cluster_of : List ℕ → Cluster
cluster_of bytes = record { len = length bytes; cells = cells_of bytes; is_space = is_space_text bytes }

-- U+000A, and U+000D U+000A, end a paragraph
abbrev pub is_paragraph_end : List ℕ → Bool
is_paragraph_end bytes = bytes_eq bytes (10 ∷ []) || bytes_eq bytes (13 ∷ 10 ∷ [])

-- a paragraph: the byte of the text at which it begins, and its clusters
pub record Paragraph : Type 0 where
  pub start : ℕ
  pub clusters : List Cluster

abbrev pub paragraph : ℕ → List Cluster → Paragraph
paragraph start clusters = record { start = start; clusters = clusters }

-- the paragraphs with a cluster more at the front of the first one
abbrev pub with_first : ℕ → Cluster → List Paragraph → List Paragraph
with_first start c [] = paragraph start (c ∷ []) ∷ []
with_first start c (p ∷ ps) = paragraph start (c ∷ p.clusters) ∷ ps

-- the paragraphs of a text's clusters, the first of which begins at a byte: k paragraph ends make k + 1 paragraphs
abbrev pub paragraphs : ℕ → List (List ℕ) → List Paragraph
paragraphs at [] = paragraph at [] ∷ []
paragraphs at (bytes ∷ rest) =
    if is_paragraph_end bytes then paragraph at [] ∷ paragraphs (at + length bytes) rest
    else with_first at (cluster_of bytes) (paragraphs (at + length bytes) rest)

-- the cells of clusters
abbrev pub cells_sum : List Cluster → ℕ
cells_sum [] = 0
cells_sum (c ∷ cs) = c.cells + cells_sum cs

-- the bytes of clusters
abbrev pub bytes_sum : List Cluster → ℕ
bytes_sum [] = 0
bytes_sum (c ∷ cs) = c.len + bytes_sum cs

-- the width of a stretch of clusters: their cells without the spaces at their end
abbrev pub width : List Cluster → ℕ
width [] = 0
width (c ∷ cs) = if list_all (λ d. d.is_space) (c ∷ cs) then 0 else c.cells + width cs
