-- The lines of a text.
use Rattle.std.specs.Prelude.{◌≡◌, true, ℕ, ◌+◌, ◌*◌, ◌/◌, max, List, [], ◌∷◌, ◌++◌, length, take, drop, Option, Some, None}
use Rattle.fx_geom.specs.declared.lengths.Len.{Len}
use Rattle.fx_geom.specs.declared.lengths.Len.TheVariants.{Finite, Unbounded}
use Rattle.fx_geom.specs.declared.shapes.Size.{Size}
use Rattle.fx_geom.specs.Len.{stopped}
use Rattle.unicode_segmentation.specs.Grapheme.{graphemes}
use Rattle.text_cells.specs.Cluster.{Cluster, Paragraph, paragraphs, bytes_sum, width}
use Rattle.text_cells.specs.Line.{AreLines}
use Rattle.text_cells.specs.declared.line.Line.{Line}

-- the line of the first n clusters of what is left of a paragraph, which begins at a byte
abbrev pub line_of : ℕ → List Cluster → ℕ → Line
line_of start left n = record { start = start; end = start + bytes_sum (take n left); cells = width (take n left) }

-- the lines of these numbers of clusters
abbrev pub lines_of : ℕ → List Cluster → List ℕ → List Line
lines_of start left [] = []
lines_of start left (n ∷ more) = line_of start left n ∷ lines_of (start + bytes_sum (take n left)) (drop n left) more

-- each paragraph has its lines, one paragraph after the other
abbrev pub AreWrapped : Option ℕ → List Paragraph → List Line → Type 0
AreWrapped limit [] lines = lines ≡ []
AreWrapped limit (p ∷ ps) lines =
    (counts : List ℕ) × (rest : List Line) × AreLines limit p.clusters counts
    × (lines ≡ lines_of p.start p.clusters counts ++ rest) × AreWrapped limit ps rest

-- the lines of a text at a limit of cells, where there is one
abbrev pub IsWrapping : Option ℕ → List ℕ → List Line → Type 0
IsWrapping limit text lines = AreWrapped limit (paragraphs 0 (graphemes true text)) lines

-- the cells of the widest line
abbrev pub widest : List Line → ℕ
widest [] = 0
widest (line ∷ lines) = max line.cells (widest lines)

-- how many cells of this width stand in a length, where it has a limit
abbrev pub cell_limit : Len → ℕ → Option ℕ
cell_limit (Finite length) cell = Some (length / cell)
cell_limit Unbounded cell = None

-- the size of lines in cells of this size, in u: both sides stop at the greatest length
abbrev pub size_of : List Line → Size → Size
size_of lines cell = record { w = stopped (widest lines * cell.w); h = stopped (length lines * cell.h) }

-- the width of the widest of lines in cells of this width, in u; it stops at the greatest length
abbrev pub lines_width : List Line → ℕ → ℕ
lines_width lines cell = stopped (widest lines * cell)
